-- The start code that comes next (ISO/IEC 13818-2, 5.2.3), or what else does.
use Rattle.std.specs.Prelude.{◌≡◌, ◌⊎◌, ◌<◌, ◌+◌, ◌%◌, ◌^◌, ℕ, Bool, false, Option, Some, None, List, [], ◌∷◌, ◌++◌, length}
use Rattle.shelf_io.specs.declared.source.Source.{Ghosts}
use Rattle.bit_lists.specs.Bits.{IsPrefix, bits_of}
use Rattle.bit_cursor.specs.declared.bit_reader.BitReader.{BitReader}
use Rattle.picture_grammar.specs.Refusal.{Refusal}
use Rattle.picture_grammar.specs.Grammar.{Grammar, done, ◌>>=◌, if_next, Next}
use Rattle.picture_grammar.specs.Grammar.Next.{more, last}
use Rattle.picture_grammar.specs.StartCode.{start_code_prefix, start_code_bits, zero_byte}
use Rattle.grammar_reading.specs.Several.{several}
use Rattle.video_headers.specs.declared.code.Comes.{Comes}
use Rattle.video_headers.specs.declared.code.Comes.TheVariants.{Code, NoCode, Nothing}
use Rattle.video_headers.specs.declared.code.NextCode.{NextCode}
use Rattle.video_headers.specs.declared.fault.HeadFault.{HeadFault}
use Rattle.video_headers.specs.declared.fault.HeadFault.TheVariants as fault
use Rattle.video_headers.specs.declared.stands.Stands.{Stands}
use Rattle.video_headers.specs.declared.stands.Stands.TheVariants.{Other}
use Rattle.video_headers.specs.declared.why.Why.{Why}
use Rattle.video_headers.specs.Private.Stands.{StandsAt}
use Rattle.video_headers.specs.Private.Why.{fault_at}
use Rattle.video_headers.specs.Private.Wholes.{Wholes}

-- one more zero byte, or the start code prefix behind them
abbrev pub zero_item : Refusal → List ℕ → Grammar (Next ℕ (Unit {0}))
zero_item refusal before = if_next (IsPrefix start_code_prefix) (done (last tt)) (zero_byte refusal >>= λ byte. done (more byte))

-- zero bytes were taken, whatever the kind of refusal without a start code
pub record ZerosTaken {S : Type 0} {g : Ghosts S} (from : ℕ) (reader : BitReader S g) (end : ℕ) (bits : List ℕ) : Type 0 where
  pub zeros : List ℕ
  pub here : List ℕ
  pub spelled : (refusal : Refusal) → (several (zero_item refusal)).Spells zeros bits here
  pub left : Wholes reader end here
  pub total : from + length bits ≡ end
  pub whole : length bits % 8 ≡ 0

-- zero bytes were taken, and this stands behind them
pub record BehindZeros {S : Type 0} {g : Ghosts S} (stands : Stands) (from : ℕ) (reader : BitReader S g) (end : ℕ) (bits : List ℕ) : Type 0 where
  pub taken : ZerosTaken from reader end bits
  pub found : StandsAt stands taken.here

-- a byte was taken, or none is left
abbrev pub ByteTaken : {S : Type 0} {g : Ghosts S} → Option ℕ → BitReader S g → ℕ → List ℕ → Type 0
ByteTaken None reader end bits = (bits ≡ []) × Wholes reader end bits
ByteTaken (Some byte) reader end bits = (behind : List ℕ) × (byte < 2 ^ 8) × (bits ≡ bits_of 8 byte ++ behind) × Wholes reader end behind

-- what comes, by the byte behind a prefix
abbrev pub comes_of : Option ℕ → Comes
comes_of None = Nothing
comes_of (Some byte) = Code byte

-- what comes at these bits, with those behind its start code
abbrev pub ComesHere : Comes → List ℕ → List ℕ → Type 0
ComesHere (Code byte) bits behind = (byte < 2 ^ 8) × (bits ≡ start_code_bits byte ++ behind)
ComesHere NoCode bits behind = StandsAt Other bits
ComesHere Nothing bits behind = (bits ≡ []) ⊎ (bits ≡ start_code_prefix)

-- what comes at a place, with the reader behind its start code
pub record ComesNext {S : Type 0} {g : Ghosts S} (comes : Comes) (at : ℕ) (reader : BitReader S g) (end : ℕ) (bits : List ℕ) : Type 0 where
  pub behind : List ℕ
  pub left : Wholes reader end behind
  pub found : ComesHere comes bits behind
  pub total : at + length bits ≡ end

-- the bits from the place on where a start code was looked for, with the reader behind what came
pub record NextRests {S : Type 0} {g : Ghosts S} (next : NextCode) (reader : BitReader S g) (end : ℕ) (bits : List ℕ) : Type 0 where
  pub zeros : List ℕ
  pub here : List ℕ
  pub spelled : (refusal : Refusal) → (several (zero_item refusal)).Spells zeros bits here
  pub coming : ComesNext next.comes next.at reader end here
  pub total : next.from + length bits ≡ end
  pub whole : length bits % 8 ≡ 0

-- a start code comes, and is one of these
abbrev pub is_one : (ℕ → Bool) → Comes → Bool
is_one codes (Code byte) = codes byte
is_one codes NoCode = false
is_one codes Nothing = false

-- its last byte
abbrev pub byte_of : Comes → ℕ
byte_of (Code byte) = byte
byte_of NoCode = 0
byte_of Nothing = 0

-- how it is refused where none of those comes that may
abbrev pub refused_code : Comes → Why → ℕ → HeadFault
refused_code (Code byte) why at = fault_at why at
refused_code NoCode why at = fault_at why at
refused_code Nothing why at = fault.End at
