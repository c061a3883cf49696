-- The elements of a packet, by the bytes that hold them.
use Rattle.std.proofs.Common.{◌≡◌, ℕ, ◌+◌, ◌*◌, ◌/◌, ◌%◌, ◌^◌, List, get_or, refl, arith}
use Rattle.ts_packets.specs.AdaptationField.{discontinuity_indicator, pcr_flag, program_clock_reference_base, program_clock_reference_extension}
use Rattle.ts_packets.specs.Packet.{
  sync_byte,
  transport_error_indicator,
  payload_unit_start_indicator,
  packet_identifier,
  transport_scrambling_control,
  adaptation_field_control,
  continuity_counter,
  adaptation_field_length,
}
use Rattle.bit_lists.proofs.FieldLemmas.{bits-byte, bits-add}
use Rattle.bit_lists.proofs.MaskLemmas.{and_128, and_192, and_64, and_32, and_16, and_511, and_15, and_31}

-- ---- of the header

pub sync_byte-is : (bytes : List ℕ) → sync_byte bytes ≡ get_or bytes 0 0 % 256
sync_byte-is bytes = omega (arith, bits-byte bytes 0 8 0 0 0 refl refl)

pub transport_error_indicator-is : (bytes : List ℕ) → transport_error_indicator bytes ≡ get_or bytes 1 0 / 128 % 2
transport_error_indicator-is bytes = bits-byte bytes 8 1 1 0 7 refl refl

pub payload_unit_start_indicator-is : (bytes : List ℕ) → payload_unit_start_indicator bytes ≡ get_or bytes 1 0 / 64 % 2
payload_unit_start_indicator-is bytes = bits-byte bytes 9 1 1 1 6 refl refl

pub packet_identifier-is : (bytes : List ℕ) → packet_identifier bytes ≡ get_or bytes 1 0 % 32 * 256 + get_or bytes 2 0 % 256
packet_identifier-is bytes = omega (arith, bits-add bytes 11 5 8, bits-byte bytes 11 5 1 3 0 refl refl, bits-byte bytes 16 8 2 0 0 refl refl)

pub transport_scrambling_control-is : (bytes : List ℕ) → transport_scrambling_control bytes ≡ get_or bytes 3 0 / 64 % 4
transport_scrambling_control-is bytes = bits-byte bytes 24 2 3 0 6 refl refl

pub adaptation_field_control-is : (bytes : List ℕ) → adaptation_field_control bytes ≡ get_or bytes 3 0 / 16 % 4
adaptation_field_control-is bytes = bits-byte bytes 26 2 3 2 4 refl refl

pub continuity_counter-is : (bytes : List ℕ) → continuity_counter bytes ≡ get_or bytes 3 0 % 16
continuity_counter-is bytes = omega (arith, bits-byte bytes 28 4 3 4 0 refl refl)

pub adaptation_field_length-is : (bytes : List ℕ) → adaptation_field_length bytes ≡ get_or bytes 4 0 % 256
adaptation_field_length-is bytes = omega (arith, bits-byte bytes 32 8 4 0 0 refl refl)

-- ---- of the adaptation field

pub discontinuity_indicator-is : (bytes : List ℕ) → discontinuity_indicator bytes ≡ get_or bytes 0 0 / 128 % 2
discontinuity_indicator-is bytes = bits-byte bytes 0 1 0 0 7 refl refl

pub pcr_flag-is : (bytes : List ℕ) → pcr_flag bytes ≡ get_or bytes 0 0 / 16 % 2
pcr_flag-is bytes = bits-byte bytes 3 1 0 3 4 refl refl

pub program_clock_reference_base-is : (bytes : List ℕ) → program_clock_reference_base bytes
    ≡ get_or bytes 1 0 % 256 * 2 ^ 25 + get_or bytes 2 0 % 256 * 2 ^ 17 + get_or bytes 3 0 % 256 * 2 ^ 9 + get_or bytes 4 0 % 256 * 2
    + get_or bytes 5 0 / 128 % 2
program_clock_reference_base-is bytes = omega (
  arith,
  bits-add bytes 8 8 25,
  bits-add bytes 16 8 17,
  bits-add bytes 24 8 9,
  bits-add bytes 32 8 1,
  bits-byte bytes 8 8 1 0 0 refl refl,
  bits-byte bytes 16 8 2 0 0 refl refl,
  bits-byte bytes 24 8 3 0 0 refl refl,
  bits-byte bytes 32 8 4 0 0 refl refl,
  bits-byte bytes 40 1 5 0 7 refl refl,
)

pub program_clock_reference_extension-is : (bytes : List ℕ) → program_clock_reference_extension bytes ≡ get_or bytes 5 0 % 2 * 256 + get_or bytes 6 0 % 256
program_clock_reference_extension-is bytes = omega (arith, bits-add bytes 47 1 8, bits-byte bytes 47 1 5 7 0 refl refl, bits-byte bytes 48 8 6 0 0 refl refl)

-- ---- masks of the code

-- what the code looks at, and what it finds
pub ruleset elements = (
  sync_byte-is,
  transport_error_indicator-is,
  payload_unit_start_indicator-is,
  packet_identifier-is,
  transport_scrambling_control-is,
  adaptation_field_control-is,
  continuity_counter-is,
  adaptation_field_length-is,
  discontinuity_indicator-is,
  pcr_flag-is,
  program_clock_reference_base-is,
  program_clock_reference_extension-is,
  and_128,
  and_64,
  and_32,
  and_16,
  and_192,
  and_31,
  and_15,
  and_511,
)
