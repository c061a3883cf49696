-- The elements of sections, by the bytes that hold them.
use Rattle.std.proofs.Common.{◌≡◌, ℕ, ◌+◌, ◌*◌, ◌%◌, List, get_or, refl, arith}
use Rattle.bit_lists.specs.Fields.{bits}
use Rattle.bit_lists.proofs.FieldLemmas.{bits-byte, bits-add}
use Rattle.bit_lists.proofs.MaskLemmas.{and_1, and_15, and_31}
use Rattle.psi_tables.specs.Section.{table_id, section_length, table_id_extension, current_next_indicator}
use Rattle.psi_tables.specs.Descriptors.{descriptor_tag, descriptor_length}
use Rattle.psi_tables.specs.Streams.{ES_info_length}
use Rattle.psi_tables.specs.Pmt.{PCR_PID, program_info_length}

-- ---- of the header

pub table_id-is : (bytes : List ℕ) → table_id bytes ≡ get_or bytes 0 0 % 256
table_id-is bytes = omega (arith, bits-byte bytes 0 8 0 0 0 refl refl)

pub section_length-is : (bytes : List ℕ) → section_length bytes ≡ get_or bytes 1 0 % 16 * 256 + get_or bytes 2 0 % 256
section_length-is bytes = omega (arith, bits-add bytes 12 4 8, bits-byte bytes 12 4 1 4 0 refl refl, bits-byte bytes 16 8 2 0 0 refl refl)

pub table_id_extension-is : (bytes : List ℕ) → table_id_extension bytes ≡ get_or bytes 3 0 % 256 * 256 + get_or bytes 4 0 % 256
table_id_extension-is bytes = omega (arith, bits-add bytes 24 8 8, bits-byte bytes 24 8 3 0 0 refl refl, bits-byte bytes 32 8 4 0 0 refl refl)

pub current_next_indicator-is : (bytes : List ℕ) → current_next_indicator bytes ≡ get_or bytes 5 0 % 2
current_next_indicator-is bytes = omega (arith, bits-byte bytes 47 1 5 7 0 refl refl)

-- ---- of a program in a PAT section

pub program_number-is : (bytes : List ℕ) → bits bytes 0 16 ≡ get_or bytes 0 0 % 256 * 256 + get_or bytes 1 0 % 256
program_number-is bytes = omega (arith, bits-add bytes 0 8 8, bits-byte bytes 0 8 0 0 0 refl refl, bits-byte bytes 8 8 1 0 0 refl refl)

pub program_map_PID-is : (bytes : List ℕ) → bits bytes 19 13 ≡ get_or bytes 2 0 % 32 * 256 + get_or bytes 3 0 % 256
program_map_PID-is bytes = omega (arith, bits-add bytes 19 5 8, bits-byte bytes 19 5 2 3 0 refl refl, bits-byte bytes 24 8 3 0 0 refl refl)

-- ---- of a descriptor

pub descriptor_tag-is : (bytes : List ℕ) → descriptor_tag bytes ≡ get_or bytes 0 0 % 256
descriptor_tag-is bytes = omega (arith, bits-byte bytes 0 8 0 0 0 refl refl)

pub descriptor_length-is : (bytes : List ℕ) → descriptor_length bytes ≡ get_or bytes 1 0 % 256
descriptor_length-is bytes = omega (arith, bits-byte bytes 8 8 1 0 0 refl refl)

-- ---- of a stream in a PMT section

pub elementary_PID-is : (bytes : List ℕ) → bits bytes 11 13 ≡ get_or bytes 1 0 % 32 * 256 + get_or bytes 2 0 % 256
elementary_PID-is bytes = omega (arith, bits-add bytes 11 5 8, bits-byte bytes 11 5 1 3 0 refl refl, bits-byte bytes 16 8 2 0 0 refl refl)

pub ES_info_length-is : (bytes : List ℕ) → ES_info_length bytes ≡ get_or bytes 3 0 % 16 * 256 + get_or bytes 4 0 % 256
ES_info_length-is bytes = omega (arith, bits-add bytes 28 4 8, bits-byte bytes 28 4 3 4 0 refl refl, bits-byte bytes 32 8 4 0 0 refl refl)

-- ---- of the content of a PMT section

pub PCR_PID-is : (bytes : List ℕ) → PCR_PID bytes ≡ get_or bytes 0 0 % 32 * 256 + get_or bytes 1 0 % 256
PCR_PID-is bytes = omega (arith, bits-add bytes 3 5 8, bits-byte bytes 3 5 0 3 0 refl refl, bits-byte bytes 8 8 1 0 0 refl refl)

pub program_info_length-is : (bytes : List ℕ) → program_info_length bytes ≡ get_or bytes 2 0 % 16 * 256 + get_or bytes 3 0 % 256
program_info_length-is bytes = omega (arith, bits-add bytes 20 4 8, bits-byte bytes 20 4 2 4 0 refl refl, bits-byte bytes 24 8 3 0 0 refl refl)

-- ---- masks of the code

-- what the code looks at, and what it finds
pub ruleset elements = (
  table_id-is,
  section_length-is,
  table_id_extension-is,
  current_next_indicator-is,
  program_number-is,
  program_map_PID-is,
  descriptor_tag-is,
  descriptor_length-is,
  elementary_PID-is,
  ES_info_length-is,
  PCR_PID-is,
  program_info_length-is,
  and_1,
  and_15,
  and_31,
)
