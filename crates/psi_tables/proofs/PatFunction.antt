-- The function of a PAT section and the relation say the same.
use Rattle.std.proofs.Common.{◌≡◌, ℕ, ◌+◌, ◌==◌, ◌&&◌, Bool, true, false, cond, List, length, take, Option, Some, None, refl, sym, ap₂, subst, ◌∙◌, arith, length-take}
use Rattle.std.specs.Prelude.{nat_le}
use Rattle.std.proofs.lemmas.Bool.{and_parts, eqb-true, leb-true}
use Rattle.std.proofs.lemmas.Bool.Decides.{nat_tests}
use Rattle.bit_lists.specs.Fields.{bits}
use Rattle.psi_tables.specs.declared.section.TheConstants.{SECTION_LENGTH_LEAST}
use Rattle.psi_tables.specs.Section.{table_id, section_length, current_next_indicator, content}
use Rattle.psi_tables.specs.Pat.{IsPatEntry, IsPat}
use Rattle.psi_tables.specs.PatOf.{program_of, programs_in, is_pat, pat_of}
use Rattle.psi_tables.proofs.PmtFunction.{IsReadBy, row_read, row_spelled}

program_is : (front : List ℕ) (x : ℕ × ℕ) → length front ≡ 4 → program_of front ≡ Some x → IsPatEntry x front
program_is front x size e =
    let same : (bits front 0 16, bits front 19 13) ≡ x = cc in
    subst (λ (p : ℕ × ℕ). IsPatEntry p front) same (record { size = size; number = refl; pid = refl })

programs_read : IsReadBy IsPatEntry (λ (front : List ℕ). 4) program_of
programs_read = record {
  some = λ x front is. omega (arith, is.size);
  size_is = λ x front behind is. sym is.size;
  reads = λ x front is. ap₂ (λ (n p : ℕ). Some (n, p)) (sym is.number) (sym is.pid);
  spelled = λ x bytes fits e. program_is (take 4 bytes) x (omega (arith, length-take 4 bytes, fits)) e;
}

pub pat_made : (section : List ℕ) (programs : List (ℕ × ℕ)) → IsPat programs section → pat_of section ≡ Some programs
pat_made section programs is =
    let frame : is_pat section ≡ true = grind (arith, nat_tests, is.current.table_is, is.current.current, is.whole.size, is.whole.room) in
    let row : programs_in (content section) ≡ Some programs =
    row_read IsPatEntry (λ (front : List ℕ). 4) program_of programs_read programs (content section) (length (content section)) (omega arith) is.programs_are in
    (rw frame) ∙ row

chosen : (test : Bool) (found : Option (List (ℕ × ℕ))) (programs : List (ℕ × ℕ)) → cond test found None ≡ Some programs → (test ≡ true) × (found ≡ Some programs)
chosen false found programs e = absurd cc
chosen true found programs e = (refl, e)

pub pat_is : (section : List ℕ) (programs : List (ℕ × ℕ)) → pat_of section ≡ Some programs → IsPat programs section
pat_is section programs e =
    let c = chosen (is_pat section) (programs_in (content section)) programs e in
    let a = table_id section == 0 in
    let b = current_next_indicator section == 1 in
    let d = length section == 3 + section_length section in
    let r = nat_le SECTION_LENGTH_LEAST (section_length section) in
    let p = and_parts (a && b && d) r c.0 in
    let q = and_parts (a && b) d p.0 in
    let s = and_parts a b q.0 in
    record {
      current = record { table_is = eqb-true (table_id section) 0 s.0; current = eqb-true (current_next_indicator section) 1 s.1 };
      whole = record { size = eqb-true (length section) (3 + section_length section) q.1; room = leb-true SECTION_LENGTH_LEAST (section_length section) p.1 };
      programs_are = row_spelled IsPatEntry (λ (front : List ℕ). 4) program_of programs_read (length (content section)) (content section) programs c.1;
    }
