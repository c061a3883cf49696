-- The elements of a pack header and the length of a packet, by the bytes that hold them.
use Rattle.std.proofs.Common.{◌≡◌, ℕ, ◌/◌, ◌%◌, ◌==◌, ◌&&◌, List, get_or, refl, arith}
use Rattle.bit_lists.specs.Fields.{bits}
use Rattle.bit_lists.proofs.FieldLemmas.{bits-byte}
use Rattle.pes_units.proofs.Elements.{pes_packet_length-is}
use Rattle.program_stream.specs.Elements.{pack_stuffing_length, has_pack_marks}

pub pack_stuffing_length-is : (bytes : List ℕ) → pack_stuffing_length bytes ≡ get_or bytes 13 0 % 8
pack_stuffing_length-is bytes = omega (arith, bits-byte bytes 109 3 13 5 0 refl refl)

mark : (bytes : List ℕ) → bits bytes 32 2 ≡ get_or bytes 4 0 / 64 % 4
mark bytes = bits-byte bytes 32 2 4 0 6 refl refl

high_marker : (bytes : List ℕ) → bits bytes 37 1 ≡ get_or bytes 4 0 / 4 % 2
high_marker bytes = bits-byte bytes 37 1 4 5 2 refl refl

middle_marker : (bytes : List ℕ) → bits bytes 53 1 ≡ get_or bytes 6 0 / 4 % 2
middle_marker bytes = bits-byte bytes 53 1 6 5 2 refl refl

low_marker : (bytes : List ℕ) → bits bytes 69 1 ≡ get_or bytes 8 0 / 4 % 2
low_marker bytes = bits-byte bytes 69 1 8 5 2 refl refl

extension_marker : (bytes : List ℕ) → bits bytes 79 1 ≡ get_or bytes 9 0 % 2
extension_marker bytes = omega (arith, bits-byte bytes 79 1 9 7 0 refl refl)

rate_markers : (bytes : List ℕ) → bits bytes 102 2 ≡ get_or bytes 12 0 % 4
rate_markers bytes = omega (arith, bits-byte bytes 102 2 12 6 0 refl refl)

-- the marks, by the bytes that hold them
pub has_pack_marks-is : (bytes : List ℕ) → has_pack_marks bytes
    ≡ ((get_or bytes 4 0 / 64 % 4 == 1) && (get_or bytes 4 0 / 4 % 2 == 1) && (get_or bytes 6 0 / 4 % 2 == 1) && (get_or bytes 8 0 / 4 % 2 == 1) && (get_or bytes 9 0 % 2 == 1) && (get_or bytes 12 0 % 4 == 3))
has_pack_marks-is bytes = rw (mark bytes, high_marker bytes, middle_marker bytes, low_marker bytes, extension_marker bytes, rate_markers bytes) refl

-- what the code looks at
pub ruleset fields = (pack_stuffing_length-is, pes_packet_length-is, has_pack_marks-is)
