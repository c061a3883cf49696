-- Program association sections (ISO/IEC 13818-1, 2.4.4.3). A program is its number and the PID of its map.
use Rattle.std.specs.Prelude.{◌≡◌, ℕ, ◌+◌, ◌*◌, ◌==◌, List, ◌++◌, length, Option, None, if◌then◌else◌}
use Rattle.std.specs.List.{find, flat_map}
use Rattle.std.specs.Option.{option_map}
use Rattle.std.specs.Int.{w16, to_be_bytes}
use Rattle.psi_tables.specs.declared.section.TheConstants.{SECTION_LENGTH_LEAST}
use Rattle.bit_lists.specs.Fields.{bits}
use Rattle.psi_tables.specs.Section.{IsCurrent, IsWholeSection, IsItemRow, content, written_section_header, written_pid}

-- four bytes: program_number, three bits that may be anything, program_map_PID
pub record IsPatEntry (program : ℕ × ℕ) (bytes : List ℕ) : Type 0 where
  pub size : length bytes ≡ 4
  pub number : program.0 ≡ bits bytes 0 16
  pub pid : program.1 ≡ bits bytes 19 13

-- the bytes are a current PAT section of these programs
pub record IsPat (programs : List (ℕ × ℕ)) (bytes : List ℕ) : Type 0 where
  pub current : IsCurrent 0 bytes
  pub whole : IsWholeSection bytes
  pub programs_are : IsItemRow IsPatEntry programs (content bytes)

-- the PID of the first program of this number; the number 0 is the network's and no program's
abbrev pub pat_map_pid : ℕ → List (ℕ × ℕ) → Option ℕ
pat_map_pid number programs = if number == 0 then None else option_map (λ program. program.1) (find (λ program. program.0 == number) programs)

-- how a program is written
abbrev pub written_program : ℕ × ℕ → List ℕ
written_program program = to_be_bytes w16 program.0 ++ written_pid program.1

-- a written PAT section before its CRC
abbrev pub written_pat : ℕ → List (ℕ × ℕ) → List ℕ
written_pat stream_id programs = written_section_header 0 (SECTION_LENGTH_LEAST + 4 * length programs) stream_id ++ flat_map written_program programs
