-- Worked examples: heads, and the same without vbv_delay. The bits were worked out by hand.
use Rattle.std.proofs.Common.{◌≡◌, ℕ, Option, Some, None, List, [], ◌∷◌, ◌++◌, nat_lt, true, false, refl}
use Rattle.std.specs.List.{list_all}
use Rattle.std.proofs.lemmas.Bool.{and_parts, ltb-true}
use Rattle.bit_lists.specs.Bits.{bits_of}
use Rattle.bit_lists.specs.Fields.{AreBytes, bit_list}
use Rattle.quant_math.specs.Matrices.{default_weights}
use Rattle.syntax_types.specs.declared.picture.SeqState.{SeqState}
use Rattle.picture_laws.proofs.Answers.{IsDecided}
use Rattle.picture_laws.proofs.Computing.{said, answers}
use Rattle.picture_laws.proofs.Decided.{decided-then}
use Rattle.picture_laws.proofs.DecidedElements.{decided-uimsbf}
use Rattle.picture_laws.proofs.DecidedHeads.{decided-start_code, decided-sequence_part, decided-group_part}
use Rattle.picture_heads.specs.Heads.{before_vbv_delay, IsHeadWithoutDelay}
use Rattle.picture_laws.proofs.ExampleUnits.{sequence_extension_bytes, coding_extension_bytes, picture_header_bytes}

decided-before : (before : Option SeqState) → IsDecided (before_vbv_delay before)
decided-before before =
    decided-then _ _ (decided-sequence_part before)
    (decided-then _ _ decided-group_part
    (decided-then _ _ (decided-start_code _ _)
    (decided-then _ _ (decided-uimsbf 10 []) (decided-uimsbf 3 []))))

abbrev state : SeqState
state = record { width = 16; height = 16; rate_code = 3; vbv = 112; progressive = true; intra = default_weights true; non_intra = default_weights false }

-- 16 columns and 16 lines
abbrev sequence_header_bytes : List ℕ
sequence_header_bytes = 0x00 ∷ 0x00 ∷ 0x01 ∷ 0xB3 ∷ 0x01 ∷ 0x00 ∷ 0x10 ∷ 0x13 ∷ 0x24 ∷ 0x9F ∷ 0x23 ∷ 0x80 ∷ []

-- a group of pictures header whose time_code looks like a picture start code
abbrev group_bytes : List ℕ
group_bytes = 0x00 ∷ 0x00 ∷ 0x01 ∷ 0xB8 ∷ 0x00 ∷ 0x00 ∷ 0x01 ∷ 0x00 ∷ []

-- an I-picture with temporal_reference 0 and vbv_delay 1234 in hexadecimal, and with all ones
abbrev picture_bytes : List ℕ
picture_bytes = 0x00 ∷ 0x00 ∷ 0x01 ∷ 0x00 ∷ 0x00 ∷ 0x08 ∷ 0x91 ∷ 0xA0 ∷ []

abbrev bits_before : List ℕ → List ℕ
bits_before bytes = bit_list bytes ++ bit_list (0x00 ∷ 0x00 ∷ 0x01 ∷ 0x00 ∷ 0x00 ∷ []) ++ 0 ∷ 0 ∷ 0 ∷ 0 ∷ 1 ∷ []

by_test : (bytes : List ℕ) → list_all (λ byte. nat_lt byte 256) bytes ≡ true → AreBytes bytes
by_test [] passes = tt
by_test (byte ∷ bytes) passes = let parts = and_parts (nat_lt byte 256) (list_all (λ byte. nat_lt byte 256) bytes) passes in (ltb-true byte 256 parts.0, by_test bytes parts.1)

-- ---- behind a group of pictures header, whose own bytes aren't taken for the picture's start code

group_place : (before_vbv_delay (Some state)).Spells 1 (bit_list (group_bytes ++ picture_bytes ++ coding_extension_bytes) ++ [])
    (bits_of 16 0x1234 ++ (0 ∷ 0 ∷ 0 ∷ bit_list coding_extension_bytes) ++ [])
unfolding answers decided-before
group_place = (said (decided-before (Some state)) (bit_list (group_bytes ++ picture_bytes ++ coding_extension_bytes) ++ []) refl).0

pub behind_group : IsHeadWithoutDelay (group_bytes ++ picture_bytes ++ coding_extension_bytes) (group_bytes ++ picture_header_bytes ++ coding_extension_bytes)
unfolding bits_of
behind_group = record {
  front = bits_before group_bytes;
  delay = bits_of 16 0x1234;
  back = 0 ∷ 0 ∷ 0 ∷ bit_list coding_extension_bytes;
  source = record {
    bytes = by_test (group_bytes ++ picture_bytes ++ coding_extension_bytes) refl;
    before = Some state;
    kind = 1;
    following = [];
    whole = refl;
    parts = refl;
    delay_bits = refl;
    place = group_place;
  };
  bytes = by_test (group_bytes ++ picture_header_bytes ++ coding_extension_bytes) refl;
  without = refl;
}

-- ---- behind a sequence header and its extension, with a zero byte before the picture's start code

sequence_place : (before_vbv_delay None).Spells 1 (bit_list (sequence_header_bytes ++ sequence_extension_bytes ++ 0x00 ∷ picture_bytes ++ coding_extension_bytes) ++ [])
    (bits_of 16 0x1234 ++ (0 ∷ 0 ∷ 0 ∷ bit_list coding_extension_bytes) ++ [])
unfolding answers decided-before
sequence_place = (said (decided-before None) (bit_list (sequence_header_bytes ++ sequence_extension_bytes ++ 0x00 ∷ picture_bytes ++ coding_extension_bytes) ++ []) refl).0

behind_sequence : IsHeadWithoutDelay (sequence_header_bytes ++ sequence_extension_bytes ++ 0x00 ∷ picture_bytes ++ coding_extension_bytes)
    (sequence_header_bytes ++ sequence_extension_bytes ++ 0x00 ∷ picture_header_bytes ++ coding_extension_bytes)
unfolding bits_of
behind_sequence = record {
  front = bits_before (sequence_header_bytes ++ sequence_extension_bytes ++ 0x00 ∷ []);
  delay = bits_of 16 0x1234;
  back = 0 ∷ 0 ∷ 0 ∷ bit_list coding_extension_bytes;
  source = record {
    bytes = by_test (sequence_header_bytes ++ sequence_extension_bytes ++ 0x00 ∷ picture_bytes ++ coding_extension_bytes) refl;
    before = None;
    kind = 1;
    following = [];
    whole = refl;
    parts = refl;
    delay_bits = refl;
    place = sequence_place;
  };
  bytes = by_test (sequence_header_bytes ++ sequence_extension_bytes ++ 0x00 ∷ picture_header_bytes ++ coding_extension_bytes) refl;
  without = refl;
}
