-- The head of a coded picture: where vbv_delay stands in it, and the same head with another vbv_delay.
use Rattle.std.specs.Prelude.{◌≡◌, ◌%◌, ◌==◌, ℕ, Option, List, [], ◌++◌, length}
use Rattle.bit_lists.specs.Bits.{bits_of}
use Rattle.bit_lists.specs.Fields.{AreBytes, bit_list}
use Rattle.syntax_types.specs.declared.picture.SeqState.{SeqState}
use Rattle.stream_constants.specs.declared.start_codes.TheConstants.{PICTURE}
use Rattle.picture_grammar.specs.Refusal.Refusal.{BadHeader}
use Rattle.picture_grammar.specs.Grammar.{Grammar, ◌>>◌}
use Rattle.picture_grammar.specs.Element.{uimsbf}
use Rattle.picture_grammar.specs.StartCode.{start_code}
use Rattle.picture_grammar.specs.Head.{sequence_part, group_part}
use Rattle.picture_grammar.specs.declared.limits.TheConstants.{VBV_DELAY_BITS}
use Rattle.picture_heads.specs.declared.TheConstants.{NO_DELAY}

-- what stands before vbv_delay in a head, behind a state or none: the headers before picture_header(), its start code,
-- temporal_reference and picture_coding_type (ISO/IEC 13818-2, 6.2.2 and 6.2.3)
abbrev pub before_vbv_delay : Option SeqState → Grammar ℕ
before_vbv_delay before = do
  sequence_part before
  group_part
  start_code BadHeader (λ byte. byte == PICTURE)
  uimsbf 10 []
  uimsbf 3 []

-- The bits of a head in three parts, the middle one being vbv_delay; whole bytes follow the head in its unit
-- (ISO/IEC 13818-2, 6.2.3).
pub record HasDelay (head : List ℕ) (front delay back : List ℕ) : Type 0 where
  pub bytes : AreBytes head
  pub before : Option SeqState
  pub kind : ℕ
  pub following : List ℕ
  pub whole : length following % 8 ≡ 0
  pub parts : bit_list head ≡ front ++ delay ++ back
  pub delay_bits : length delay ≡ VBV_DELAY_BITS
  pub place : (before_vbv_delay before).Spells kind (bit_list head ++ following) (delay ++ back ++ following)

-- a head, and the same head with a vbv_delay that says nothing (ISO/IEC 13818-2, 6.3.9)
pub record IsHeadWithoutDelay (from to : List ℕ) : Type 0 where
  pub front : List ℕ
  pub delay : List ℕ
  pub back : List ℕ
  pub source : HasDelay from front delay back
  pub bytes : AreBytes to
  pub without : bit_list to ≡ front ++ bits_of VBV_DELAY_BITS NO_DELAY ++ back
