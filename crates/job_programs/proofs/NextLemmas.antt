-- What is read of a file up to one byte past what is left of the limit decides as the file's content does.
use Rattle.std.proofs.Common.{◌≡◌, ◌↔◌, Bool, true, false, IsTrue, ℕ, ◌+◌, ◌≤◌, min, List, length, take, Result, Ok, Err, IfOk, IfErr, Option, Some, None, refl, sym, ap, subst, ◌∙◌, take_all, arith}
use Rattle.std.proofs.lemmas.List.{length-take}
use Rattle.std.specs.FinMap.{get}
use Rattle.std.specs.Option.{IsSomeAnd}
use Rattle.shelf_io.specs.Counts.{ShelfCounts}
use Rattle.shelf_io.specs.Files.{Files, IfTold}
use Rattle.job_report.specs.declared.job.Form.{Form}
use Rattle.program_reader.specs.declared.limits.TheConstants.{FILE_BYTES_MOST}
use Rattle.program_reader.specs.declared.program.Program.{Program}
use Rattle.program_reader.specs.declared.program_fault.SourceKind.{SourceKind}
use Rattle.job_programs.specs.declared.next.NextProgram.{NextProgram}
use Rattle.job_programs.specs.declared.source_fault.ProgramsFault.{ProgramsFault}
use Rattle.job_programs.specs.declared.source_fault.ProgramsFault.TheVariants.{Refused, Failed, Missing, OutOfMemory}
use Rattle.job_programs.specs.Told.{HoldsContent}
use Rattle.job_programs.specs.Private.Behind.{IsProgramBehind, IsRefusedBehind, many_bytes, file, many_units, late, far}
use Rattle.job_programs.specs.Private.Next.{HasNextCause, IsContentFault, IsNextOn}
use Rattle.program_reader.specs.ReadProgram.{IsReadProgram}
use Rattle.program_reader.specs.Programs.{IsProgramOfFile}
use Rattle.shelf_io.proofs.Whole.{IfTold_then}

pub is-not : (r : Bool) (P : Type 0) → (IsTrue r ↔ P) → r ≡ false → ¬ P
is-not r P decides fails = λ holds. let yes : r ≡ true = decides.1 holds in cc

pub in-files : (files : Files) (name : List ℕ) {P : List ℕ → Type 0} → IsSomeAnd (get files name) P → (content : List ℕ) × (get files name ≡ Some content) × P content
in-files files name {P} = by-content (get files name) refl
  where
    by-content : (made : Option (List ℕ)) → get files name ≡ made → IsSomeAnd made P → (content : List ℕ) × (get files name ≡ Some content) × P content
    by-content None is holds = absurd holds
    by-content (Some content) is holds = (content, is, holds)

pub found : (told : Option Files) (name front : List ℕ) (n : ℕ) → length front ≤ n + 1 → IfTold told name (λ content. front ≡ take (n + 1) content)
    → (content : List ℕ) × HoldsContent told name content × (front ≡ take (n + 1) content)
found None name front n short holds = (front, tt, sym (take_all (n + 1) front short))
found (Some files) name front n short holds = in-files files name holds

pub is-whole : (bytes n : ℕ) (front content : List ℕ) → bytes + n ≡ FILE_BYTES_MOST → front ≡ take (n + 1) content → bytes + length front ≤ FILE_BYTES_MOST → front ≡ content
is-whole bytes n front content room is few =
    let size : length front ≡ min (n + 1) (length content) = ap length is ∙ length-take (n + 1) content in
    is ∙ take_all (n + 1) content (omega (arith, room, few, size))

refused-whole : (slot start bytes units : ℕ) (form : Form) (number : ℕ) (drop : List ℕ) (keeps : Program → Type 0) (n : ℕ) (front content : List ℕ) (kind : SourceKind) (at : ℕ) → bytes + n ≡ FILE_BYTES_MOST
    → front ≡ take (n + 1) content → IsRefusedBehind slot start bytes units form number drop keeps front kind at → IsRefusedBehind slot start bytes units form number drop keeps content kind at
refused-whole slot start bytes units form number drop keeps n front content kind at room is (many_bytes many k a) =
    let size : length front ≡ min (n + 1) (length content) = ap length is ∙ length-take (n + 1) content in
    many_bytes (omega (arith, many, size)) k a
refused-whole slot start bytes units form number drop keeps n front content kind at room is (file few bad) =
    subst (λ (l : List ℕ). IsRefusedBehind slot start bytes units form number drop keeps l kind at) (is-whole bytes n front content room is few) (file few bad)
refused-whole slot start bytes units form number drop keeps n front content kind at room is (many_units program few holds many k a) =
    subst (λ (l : List ℕ). IsRefusedBehind slot start bytes units form number drop keeps l kind at) (is-whole bytes n front content room is few) (many_units program few holds many k a)
refused-whole slot start bytes units form number drop keeps n front content kind at room is (late program few holds past k a) =
    subst (λ (l : List ℕ). IsRefusedBehind slot start bytes units form number drop keeps l kind at) (is-whole bytes n front content room is few) (late program few holds past k a)
refused-whole slot start bytes units form number drop keeps n front content kind at room is (far program few holds past k a) =
    subst (λ (l : List ℕ). IsRefusedBehind slot start bytes units form number drop keeps l kind at) (is-whole bytes n front content room is few) (far program few holds past k a)

next-whole : (told : Option Files) (name : List ℕ) (slot start bytes units : ℕ) (form : Form) (number : ℕ) (drop : List ℕ) (keeps : Program → Type 0) (n : ℕ) (front : List ℕ) (size : ℕ) (program : Program)
    → bytes + n ≡ FILE_BYTES_MOST → IfTold told name (λ content. front ≡ take (n + 1) content)
    → size ≡ length front → IsProgramBehind slot start bytes units form number drop keeps front program → IsReadProgram start program
    → IsNextOn told name slot start bytes units form number drop keeps size program
next-whole told name slot start bytes units form number drop keeps n front size program room told_is size_is next read = record {
  read = read;
  few_bytes = omega (arith, size_is, next.few_bytes);
  few_units = next.few_units;
  within = next.within;
  near = next.near;
  held = IfTold_then told name told_is (λ content is.
      (let whole : front ≡ content = is-whole bytes n front content room is next.few_bytes in
      (size_is ∙ ap length whole, subst (λ (l : List ℕ). IsProgramOfFile form l number drop start program) whole next.holds)));
}

-- the next program is the one of the file
pub next-on : (told : Option Files) (name : List ℕ) (slot start bytes units : ℕ) (form : Form) (number : ℕ) (drop : List ℕ) (keeps : Program → Type 0) (n : ℕ) (content front : List ℕ) (result : Result NextProgram ProgramsFault)
    → bytes + n ≡ FILE_BYTES_MOST → IfTold told name (λ whole. content ≡ take (n + 1) whole) → front ≡ content
    → IfOk result (λ next. (next.size ≡ length front) × IsProgramBehind slot start bytes units form number drop keeps front next.program)
    → IfOk result (λ next. IsReadProgram start next.program)
    → IfOk result (λ next. IsNextOn told name slot start bytes units form number drop keeps next.size next.program)
next-on told name slot start bytes units form number drop keeps n content front (Err fault) room told_is same holds read = tt
next-on told name slot start bytes units form number drop keeps n content front (Ok next) room told_is same holds read =
    let program = subst (λ (l : List ℕ). IsProgramBehind slot start bytes units form number drop keeps l next.program) same holds.1 in
    next-whole told name slot start bytes units form number drop keeps n content next.size next.program room told_is (holds.0 ∙ ap length same) program read

fault-on : (told : Option Files) (name : List ℕ) (slot start bytes units : ℕ) (form : Form) (number : ℕ) (drop : List ℕ) (keeps : Program → Type 0) (place n : ℕ) (content : List ℕ) (old new : ShelfCounts) (since : ℕ) (fault : ProgramsFault)
    → bytes + n ≡ FILE_BYTES_MOST → IfTold told name (λ whole. content ≡ take (n + 1) whole)
    → IsContentFault slot start bytes units form number drop keeps place content fault → HasNextCause told name slot start bytes units form number drop keeps place old new since fault
fault-on told name slot start bytes units form number drop keeps place n content old new since (Refused fault) room told_is holds = record {
  place_is = holds.0;
  held = IfTold_then told name told_is (λ whole is. refused-whole slot start bytes units form number drop keeps n content whole fault.kind fault.at room is holds.1);
}
fault-on told name slot start bytes units form number drop keeps place n content old new since (Failed number') room told_is holds = absurd holds
fault-on told name slot start bytes units form number drop keeps place n content old new since (Missing number') room told_is holds = absurd holds
fault-on told name slot start bytes units form number drop keeps place n content old new since OutOfMemory room told_is holds = tt

-- what refuses the bytes that were read refuses the file
pub cause-on : (told : Option Files) (name : List ℕ) (slot start bytes units : ℕ) (form : Form) (number : ℕ) (drop : List ℕ) (keeps : Program → Type 0) (place n : ℕ) (content front : List ℕ) (old new : ShelfCounts) (since : ℕ)
    (result : Result NextProgram ProgramsFault)
    → bytes + n ≡ FILE_BYTES_MOST → IfTold told name (λ whole. content ≡ take (n + 1) whole) → front ≡ content
    → IfErr result (IsContentFault slot start bytes units form number drop keeps place front)
    → IfErr result (HasNextCause told name slot start bytes units form number drop keeps place old new since)
cause-on told name slot start bytes units form number drop keeps place n content front old new since (Ok next) room told_is same holds = tt
cause-on told name slot start bytes units form number drop keeps place n content front old new since (Err fault) room told_is same holds =
    fault-on told name slot start bytes units form number drop keeps place n content old new since fault room told_is
    (subst (λ (l : List ℕ). IsContentFault slot start bytes units form number drop keeps place l fault) same holds)
