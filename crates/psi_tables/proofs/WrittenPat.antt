-- What is written as a program association section is one.
use Rattle.std.proofs.Common.{◌≡◌, ℕ, ◌+◌, ◌-◌, ◌*◌, ◌^◌, ◌<◌, ◌≤◌, List, [], ◌∷◌, ◌++◌, All, length, get_or, take, drop, refl, sym, ap, ap₂, subst, ◌∙◌, arith, length-append, append_assoc}
use Rattle.std.specs.List.{flat_map}
use Rattle.std.specs.Int.{w32, to_be_bytes}
use Rattle.std.proofs.lemmas.List.{take_at}
use Rattle.std.proofs.lemmas.List.Elements.{All-head, All-tail}
use Rattle.psi_tables.specs.Section.{section_length, table_id_extension, IsCurrent, IsWholeSection, IsItemRow, content, IsWithCrc, written_section_header}
use Rattle.psi_tables.specs.Pat.{IsPatEntry, IsPat, written_program, written_pat}
use Rattle.psi_tables.proofs.Elements.{table_id-is, section_length-is, table_id_extension-is, current_next_indicator-is, program_number-is, program_map_PID-is}

-- ---- headers

-- what a written header says
pub record HasHeader (table size extension : ℕ) (bytes : List ℕ) : Type 0 where
  pub current : IsCurrent table bytes
  pub size_is : section_length bytes ≡ size
  pub extension_is : table_id_extension bytes ≡ extension

header_says : (table size extension : ℕ) (rest : List ℕ) → table < 256 → size < 2 ^ 12 → extension < 2 ^ 16 → HasHeader table size extension (written_section_header table size extension ++ rest)
header_says table size extension rest table_low size_low extension_low =
    let bytes : List ℕ = written_section_header table size extension ++ rest in
    record {
      current = record { table_is = omega (arith, table_id-is bytes); current = omega (arith, current_next_indicator-is bytes) };
      size_is = omega (arith, section_length-is bytes);
      extension_is = omega (arith, table_id_extension-is bytes);
    }

-- a whole section of this table, which has this between header and CRC
pub record IsSectionOf (table extension : ℕ) (body bytes : List ℕ) : Type 0 where
  pub header : HasHeader table (9 + length body) extension bytes
  pub whole : IsWholeSection bytes
  pub content_is : content bytes ≡ body

pub section_says : (table extension : ℕ) (body bytes : List ℕ) → table < 256 → extension < 2 ^ 16 → length body ≤ 1000
    → IsWithCrc (written_section_header table (9 + length body) extension ++ body) bytes → IsSectionOf table extension body bytes
section_says table extension body bytes table_low extension_low small is =
    let header : List ℕ = written_section_header table (9 + length body) extension in
    let crc : List ℕ = to_be_bytes w32 is.crc in
    let joined : bytes ≡ header ++ (body ++ crc) = is.joined ∙ append_assoc header body crc in
    let says : HasHeader table (9 + length body) extension bytes =
    subst (HasHeader table (9 + length body) extension) (sym joined) (header_says table (9 + length body) extension (body ++ crc) table_low (omega (arith, small)) extension_low) in
    let size : length bytes ≡ length body + 12 = omega (arith, ap length joined, length-append body crc) in
    let place : length bytes - 12 ≡ length body = omega (arith, size) in
    record {
      header = says;
      whole = record { size = omega (arith, size, says.size_is); room = omega (arith, says.size_is) };
      content_is = ap₂ (λ (n : ℕ) (xs : List ℕ). take n (drop 8 xs)) place joined ∙ take_at body crc (length body) refl;
    }

-- written items one behind the other are a row
pub row_written : {A : Type 0} (spells : A → List ℕ → Type 0) (written : A → List ℕ) (xs : List A) → All (λ x. spells x (written x)) xs → IsItemRow spells xs (flat_map written xs)
row_written spells written [] each = refl
row_written {A} spells written (x ∷ xs) each =
    (written x, flat_map written xs, refl, All-head (λ (y : A). spells y (written y)) x xs each, row_written spells written xs (All-tail (λ (y : A). spells y (written y)) x xs each))

-- ---- programs

pub length-written_programs : (programs : List (ℕ × ℕ)) → length (flat_map written_program programs) ≡ 4 * length programs
length-written_programs [] = refl
length-written_programs (program ∷ programs) = omega (arith, length-written_programs programs)

program_says : (program : ℕ × ℕ) → program.0 < 2 ^ 16 → program.1 < 2 ^ 13 → IsPatEntry program (written_program program)
program_says program number_low pid_low = record {
  size = refl;
  number = omega (arith, program_number-is (written_program program));
  pid = omega (arith, program_map_PID-is (written_program program));
}

pub written_pat_is : (stream_id : ℕ) (programs : List (ℕ × ℕ)) (bytes : List ℕ) → stream_id < 2 ^ 16 → length programs ≤ 8
    → All (λ program. program.0 < 2 ^ 16) programs → All (λ program. program.1 < 2 ^ 13) programs → IsWithCrc (written_pat stream_id programs) bytes
    → IsPat programs bytes
written_pat_is stream_id programs bytes id_low few numbers pids is =
    let body : List ℕ = flat_map written_program programs in
    let size : length body ≡ 4 * length programs = length-written_programs programs in
    let says = section_says 0 stream_id body bytes (omega arith) id_low (omega (arith, size, few)) (subst (λ (n : ℕ). IsWithCrc (written_section_header 0 (9 + n) stream_id ++ body) bytes) (sym size) is) in
    record {
      current = says.header.current;
      whole = says.whole;
      programs_are = subst (IsItemRow IsPatEntry programs) (sym says.content_is)
          (row_written IsPatEntry written_program programs (λ k d within. program_says (get_or programs k d) (numbers k d within) (pids k d within)));
    }
