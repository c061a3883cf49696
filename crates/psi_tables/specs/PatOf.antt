-- What a PAT section says, as a function of its bytes (ISO/IEC 13818-1, 2.4.4.3): `IsPat` for definitions that compute.
use Rattle.std.specs.Prelude.{ℕ, ◌+◌, ◌==◌, ◌&&◌, Bool, nat_le, List, length, Option, Some, None, if◌then◌else◌}
use Rattle.bit_lists.specs.Fields.{bits}
use Rattle.psi_tables.specs.declared.section.TheConstants.{SECTION_LENGTH_LEAST}
use Rattle.psi_tables.specs.Section.{table_id, section_length, current_next_indicator, content}
use Rattle.psi_tables.specs.PmtOf.{items_in}

-- the program that four bytes are: program_number and program_map_PID
abbrev pub program_of : List ℕ → Option (ℕ × ℕ)
program_of bytes = Some (bits bytes 0 16, bits bytes 19 13)

-- the programs that bytes are
abbrev pub programs_in : List ℕ → Option (List (ℕ × ℕ))
programs_in bytes = items_in (λ front. 4) program_of bytes (length bytes)

-- a current PAT section
abbrev pub is_pat : List ℕ → Bool
is_pat section =
    (table_id section == 0) && (current_next_indicator section == 1) && (length section == 3 + section_length section)
    && nat_le SECTION_LENGTH_LEAST (section_length section)

-- the programs of a current PAT section, where it is one
abbrev pub pat_of : List ℕ → Option (List (ℕ × ℕ))
pat_of section = if is_pat section then programs_in (content section) else None
