-- The elements of a header, by the bytes that hold them.
use Rattle.std.proofs.Common.{◌≡◌, ℕ, ◌+◌, ◌*◌, ◌/◌, ◌%◌, List, get_or, refl, arith}
use Rattle.std.specs.Prelude.{bit_and}
use Rattle.std.proofs.lemmas.Nat.Bits.{and_high}
use Rattle.bit_lists.proofs.FieldLemmas.{bits-byte, bits-add}
use Rattle.bit_lists.proofs.MaskLemmas.{and_1}
use Rattle.audio_frames.specs.FrameHeader.{syncword, id, layer, bit_rate_index, sampling_index, padding_bit}

pub syncword-is : (bytes : List ℕ) → syncword bytes ≡ get_or bytes 0 0 % 256 * 16 + get_or bytes 1 0 / 16 % 16
syncword-is bytes = omega (arith, bits-add bytes 0 8 4, bits-byte bytes 0 8 0 0 0 refl refl, bits-byte bytes 8 4 1 0 4 refl refl)

pub id-is : (bytes : List ℕ) → id bytes ≡ get_or bytes 1 0 / 8 % 2
id-is bytes = bits-byte bytes 12 1 1 4 3 refl refl

pub layer-is : (bytes : List ℕ) → layer bytes ≡ get_or bytes 1 0 / 2 % 4
layer-is bytes = bits-byte bytes 13 2 1 5 1 refl refl

pub bit_rate_index-is : (bytes : List ℕ) → bit_rate_index bytes ≡ get_or bytes 2 0 / 16 % 16
bit_rate_index-is bytes = bits-byte bytes 16 4 2 0 4 refl refl

pub sampling_index-is : (bytes : List ℕ) → sampling_index bytes ≡ get_or bytes 2 0 / 4 % 4
sampling_index-is bytes = bits-byte bytes 20 2 2 4 2 refl refl

pub padding_bit-is : (bytes : List ℕ) → padding_bit bytes ≡ get_or bytes 2 0 / 2 % 2
padding_bit-is bytes = bits-byte bytes 22 1 2 6 1 refl refl

-- ---- masks of the code

pub and_3 : (n : ℕ) → bit_and n 3 ≡ n % 4
and_3 n = omega (arith, and_high n 2 0)

-- what the code looks at, and what it finds
pub ruleset elements = (syncword-is, id-is, layer-is, bit_rate_index-is, sampling_index-is, padding_bit-is, and_3, and_1)
