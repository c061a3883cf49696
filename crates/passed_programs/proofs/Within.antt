-- A file that has no more bytes than a limit, where files are told.
use Rattle.std.proofs.Common.{◌≡◌, ◌⊎◌, ℕ, ◌+◌, ◌-◌, ◌<◌, ◌≤◌, ◌↔◌, List, [], Option, None, Some, Bool, true, false, true≢false, IsTrue, IfSome, IsSomeAnd, unwrap_or, inl, inr, length, take, drop, min, refl, sym, ap, ◌∙◌, subst, arith, length-drop}
use Rattle.std.proofs.lemmas.List.{take_all, length-take}
use Rattle.std.proofs.lemmas.Bool.{cases_order}
use Rattle.std.specs.FinMap.{get}
use Rattle.shelf_io.specs.Buffer.{CopiesFront}
use Rattle.shelf_io.specs.Files.{Files, IfTold, content_of}
use Rattle.shelf_io.proofs.Whole.{IfTold_then}
use Rattle.job_report.specs.declared.job.Form.{Form}
use Rattle.job_report.specs.declared.job.Form.TheVariants.{Ts}
use Rattle.program_reader.specs.declared.program.Program.{Program}
use Rattle.program_reader.specs.declared.program_fault.ProgramFault.{ProgramFault}
use Rattle.program_reader.specs.declared.unit_sizes.SizesWanted.{SizesWanted}
use Rattle.program_reader.specs.Programs.{IsProgramOfFile, IsProgramRefused}
use Rattle.passed_programs.specs.declared.passed_fault.PassedFault.{PassedFault}
use Rattle.passed_programs.specs.declared.passed_fault.PassedFault.TheVariants as faults
use Rattle.passed_programs.specs.declared.sized_passed.SizedPassed.{SizedPassed}
use Rattle.passed_programs.specs.PassedFile.{HoldsProgram, IsPassedProgram, IsRefusedWithin, OnRefused, passes_limit}
use Rattle.passed_programs.specs.Private.Passes.{IsOfTold, front_of}
use Rattle.passed_programs.proofs.Together.{HoldsTold, IsShort}

-- ---- the first bytes of a file

-- they are no more than the limit
pub front_short : (told : Option Files) (name : List ℕ) (limit : ℕ) → limit ≤ 1099511627776 → IsShort (front_of told name limit)
front_short None name limit most = tt
front_short (Some files) name limit most =
    let count = length-take (limit - 0) (drop 0 (content_of files name)) in
    omega (arith, most, count)

-- where it has no more bytes they are all of it
in_front : (o : Option (List ℕ)) (limit : ℕ) (P : List ℕ → Type 0) → IsSomeAnd o (λ content. length content ≤ limit) → P (take (limit - 0) (drop 0 (unwrap_or o []))) → IsSomeAnd o P
in_front None limit P short is = absurd short
in_front (Some content) limit P short is =
    let fits : length content ≤ limit - 0 = omega (arith, short) in
    subst P (take_all (limit - 0) content fits) is

pub front_told : (told : Option Files) (name : List ℕ) (limit : ℕ) (P : List ℕ → Type 0) → IfTold told name (λ content. length content ≤ limit) → IfSome (front_of told name limit) P → IfTold told name P
front_told None name limit P short is = tt
front_told (Some files) name limit P short is = in_front (get files name) limit P short is

-- ---- one byte at the limit

-- none came
pub none_behind : (content buf room : List ℕ) (limit n : ℕ) → 0 < length buf → CopiesFront (drop limit content) buf room n → n ≡ 0 → length content ≤ limit
none_behind content buf room limit n holds fills none = none_left (length content) (length (drop limit content)) (length-drop limit content) (fills.progress holds)
  where
    none_left : (count rest : ℕ) → rest ≡ count - limit → (0 < rest → 0 < n) → count ≤ limit
    none_left count rest is more = grind arith

-- or one did
pub one_behind : (content buf room : List ℕ) (limit n : ℕ) → CopiesFront (drop limit content) buf room n → length content ≤ limit → n ≡ 0
one_behind content buf room limit n fills short = omega (arith, fills.within, length-drop limit content, short)

pub within_is : (told : Option Files) (name buf room : List ℕ) (limit n : ℕ) (within : Bool) → 0 < length buf → (IsTrue within ↔ (n ≡ 0)) → IfTold told name (λ content. CopiesFront (drop limit content) buf room n)
    → IfTold told name (λ content. IsTrue within ↔ (length content ≤ limit))
within_is told name buf room limit n within holds is read = IfTold_then told name read (λ content fills.
    (λ yes. none_behind content buf room limit n holds fills (is.0 yes), λ short. is.1 (one_behind content buf room limit n fills short)))

pub yes_within : (told : Option Files) (name : List ℕ) (limit : ℕ) (within : Bool) → within ≡ true → IfTold told name (λ content. IsTrue within ↔ (length content ≤ limit))
    → IfTold told name (λ content. length content ≤ limit)
yes_within told name limit within is both = IfTold_then told name both (λ content tells. tells.0 is)

pub not_within : (told : Option Files) (name : List ℕ) (limit : ℕ) (within : Bool) (form : Form) (number : ℕ) (dropped : List ℕ) → within ≡ false
    → IfTold told name (λ content. IsTrue within ↔ (length content ≤ limit)) → IfTold told name (λ content. IsRefusedWithin limit form number dropped content passes_limit)
not_within told name limit within form number dropped is both = IfTold_then told name both (λ content tells.
    IsRefusedWithin.long (longer (length content) within is tells.1) refl)
  where
    longer : (count : ℕ) (test : Bool) → test ≡ false → (count ≤ limit → test ≡ true) → limit < count
    longer count test off both = by_order (cases_order count limit)
      where
        by_order : (count ≡ limit) ⊎ ((count < limit) ⊎ (limit < count)) → limit < count
        by_order (inl same) = absurd (true≢false (sym (both (omega (arith, same))) ∙ off))
        by_order (inr (inl less)) = absurd (true≢false (sym (both (omega (arith, less))) ∙ off))
        by_order (inr (inr more)) = more

-- ---- what is said of all of it

pub program_told : (told : Option Files) (name : List ℕ) (limit number start : ℕ) (dropped : List ℕ) (wanted : SizesWanted) (passed : SizedPassed)
    → IfTold told name (λ content. length content ≤ limit) → IsPassedProgram start limit wanted (HoldsTold (front_of told name limit) number dropped start) passed
    → IsPassedProgram start limit wanted (HoldsProgram told name Ts number dropped start) passed
program_told told name limit number start dropped wanted passed short is = record {
  program = is.program;
  read = is.read;
  read_off = is.read_off;
  sized = is.sized;
  within = is.within;
  on_told = front_told told name limit (λ file. (passed.size ≡ length file) × IsProgramOfFile Ts file number dropped start is.program) short is.on_told;
}

both_told : (told : Option Files) (name : List ℕ) (limit number : ℕ) (dropped : List ℕ) (found : ProgramFault) → IfTold told name (λ content. length content ≤ limit)
    → IfTold told name (λ file. IsProgramRefused Ts file number dropped found) → IfTold told name (λ file. IsRefusedWithin limit Ts number dropped file found)
both_told None name limit number dropped found short is = tt
both_told (Some files) name limit number dropped found short is = at (get files name) short is
  where
    at : (o : Option (List ℕ)) → IsSomeAnd o (λ content. length content ≤ limit) → IsSomeAnd o (λ file. IsProgramRefused Ts file number dropped found)
        → IsSomeAnd o (λ file. IsRefusedWithin limit Ts number dropped file found)
    at None short is = short
    at (Some content) short is = IsRefusedWithin.by_itself short is

pub refused_told : (told : Option Files) (name : List ℕ) (limit number : ℕ) (dropped : List ℕ) (fault : PassedFault) → IfTold told name (λ content. length content ≤ limit)
    → IsOfTold (front_of told name limit) (λ file. IsProgramRefused Ts file number dropped) fault
    → OnRefused fault (λ found. IfTold told name (λ file. IsRefusedWithin limit Ts number dropped file found))
refused_told told name limit number dropped (faults.Refused found) short (inl memory) = inl memory
refused_told told name limit number dropped (faults.Refused found) short (inr is) =
    inr (both_told told name limit number dropped found short (front_told told name limit (λ file. IsProgramRefused Ts file number dropped found) short is))
refused_told told name limit number dropped faults.Failed short is = tt
refused_told told name limit number dropped faults.Missing short is = tt

-- ---- bytes that were read up to one behind the limit

whole_read : (bytes content : List ℕ) (limit : ℕ) → bytes ≡ take (limit + 1) content → length bytes ≤ limit → bytes ≡ content
whole_read bytes content limit is short =
    let count : length bytes ≡ min (limit + 1) (length content) = ap (λ (xs : List ℕ). length xs) is ∙ length-take (limit + 1) content in
    let fits : length content ≤ limit + 1 = omega (arith, count, short) in
    is ∙ take_all (limit + 1) content fits

pub held_told : (told : Option Files) (name bytes : List ℕ) (form : Form) (limit number start : ℕ) (dropped : List ℕ) (wanted : SizesWanted) (passed : SizedPassed)
    → IfTold told name (λ content. bytes ≡ take (limit + 1) content)
    → IsPassedProgram start limit wanted (λ size program. (size ≡ length bytes) × IsProgramOfFile form bytes number dropped start program) passed
    → IsPassedProgram start limit wanted (HoldsProgram told name form number dropped start) passed
held_told told name bytes form limit number start dropped wanted passed read is = record {
  program = is.program;
  read = is.read;
  read_off = is.read_off;
  sized = is.sized;
  within = is.within;
  on_told = IfTold_then told name read (λ content same. in_content content same);
}
  where
    in_content : (content : List ℕ) → bytes ≡ take (limit + 1) content → (passed.size ≡ length content) × IsProgramOfFile form content number dropped start is.program
    in_content content same =
        let short : length bytes ≤ limit = omega (arith, is.within, is.on_told.0) in
        subst (λ (file : List ℕ). (passed.size ≡ length file) × IsProgramOfFile form file number dropped start is.program) (whole_read bytes content limit same short) is.on_told

refused_in : (bytes content : List ℕ) (form : Form) (limit number : ℕ) (dropped : List ℕ) (found : ProgramFault) → bytes ≡ take (limit + 1) content
    → IsRefusedWithin limit form number dropped bytes found → IsRefusedWithin limit form number dropped content found
refused_in bytes content form limit number dropped found same (IsRefusedWithin.long longer fault_is) =
    let count : length bytes ≡ min (limit + 1) (length content) = ap (λ (xs : List ℕ). length xs) same ∙ length-take (limit + 1) content in
    IsRefusedWithin.long (omega (arith, count, longer)) fault_is
refused_in bytes content form limit number dropped found same (IsRefusedWithin.by_itself short refused) =
    subst (λ (file : List ℕ). IsRefusedWithin limit form number dropped file found) (whole_read bytes content limit same short) (IsRefusedWithin.by_itself short refused)

pub held_refused : (told : Option Files) (name bytes : List ℕ) (form : Form) (limit number : ℕ) (dropped : List ℕ) (fault : PassedFault) → IfTold told name (λ content. bytes ≡ take (limit + 1) content)
    → OnRefused fault (IsRefusedWithin limit form number dropped bytes) → OnRefused fault (λ found. IfTold told name (λ file. IsRefusedWithin limit form number dropped file found))
held_refused told name bytes form limit number dropped (faults.Refused found) read (inl memory) = inl memory
held_refused told name bytes form limit number dropped (faults.Refused found) read (inr refused) =
    inr (IfTold_then told name read (λ content same. refused_in bytes content form limit number dropped found same refused))
held_refused told name bytes form limit number dropped faults.Failed read is = tt
held_refused told name bytes form limit number dropped faults.Missing read is = tt
