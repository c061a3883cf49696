-- The elements of a header, by the bytes that hold them.
use Rattle.std.proofs.Common.{◌≡◌, ℕ, ◌+◌, ◌*◌, ◌/◌, ◌%◌, List, get_or, refl, arith}
use Rattle.bit_lists.proofs.FieldLemmas.{bits-byte, bits-add}
use Rattle.bit_lists.proofs.MaskLemmas.{and_192, and_48}
use Rattle.pes_units.specs.PesHeader.{packet_start_code_prefix, stream_id, pes_packet_length, fixed_bits, pes_scrambling_control}
use Rattle.pes_units.specs.Times.{pts_dts_flags, pes_header_data_length}

pub packet_start_code_prefix-is : (bytes : List ℕ) → packet_start_code_prefix bytes ≡ get_or bytes 0 0 % 256 * 65536 + get_or bytes 1 0 % 256 * 256 + get_or bytes 2 0 % 256
packet_start_code_prefix-is bytes =
    omega (arith, bits-add bytes 0 8 16, bits-add bytes 8 8 8, bits-byte bytes 0 8 0 0 0 refl refl, bits-byte bytes 8 8 1 0 0 refl refl, bits-byte bytes 16 8 2 0 0 refl refl)

pub stream_id-is : (bytes : List ℕ) → stream_id bytes ≡ get_or bytes 3 0 % 256
stream_id-is bytes = omega (arith, bits-byte bytes 24 8 3 0 0 refl refl)

pub pes_packet_length-is : (bytes : List ℕ) → pes_packet_length bytes ≡ get_or bytes 4 0 % 256 * 256 + get_or bytes 5 0 % 256
pes_packet_length-is bytes = omega (arith, bits-add bytes 32 8 8, bits-byte bytes 32 8 4 0 0 refl refl, bits-byte bytes 40 8 5 0 0 refl refl)

pub fixed_bits-is : (bytes : List ℕ) → fixed_bits bytes ≡ get_or bytes 6 0 / 64 % 4
fixed_bits-is bytes = bits-byte bytes 48 2 6 0 6 refl refl

pub pes_scrambling_control-is : (bytes : List ℕ) → pes_scrambling_control bytes ≡ get_or bytes 6 0 / 16 % 4
pes_scrambling_control-is bytes = bits-byte bytes 50 2 6 2 4 refl refl

pub pts_dts_flags-is : (bytes : List ℕ) → pts_dts_flags bytes ≡ get_or bytes 7 0 / 64 % 4
pts_dts_flags-is bytes = bits-byte bytes 56 2 7 0 6 refl refl

pub pes_header_data_length-is : (bytes : List ℕ) → pes_header_data_length bytes ≡ get_or bytes 8 0 % 256
pes_header_data_length-is bytes = omega (arith, bits-byte bytes 64 8 8 0 0 refl refl)

-- ---- masks of the code

-- what the code looks at, and what it finds
pub ruleset elements = (packet_start_code_prefix-is, stream_id-is, pes_packet_length-is, fixed_bits-is, pes_scrambling_control-is, pts_dts_flags-is, pes_header_data_length-is, and_192, and_48)
