-- Which files were asked for bytes.
use Rattle.std.proofs.Common.{◌≡◌, ℕ, ◌+◌, ◌≤◌, max, Bool, true, false, List, [], ◌∷◌, map, Contains, slice_index_or, Option, Some, None, refl, sym, subst, ap, inl, inr, ◌∙◌, arith, ◌++◌, codes}
use Rattle.std.specs.List.{list_any}
use Rattle.std.specs.Str.{bytes_eq}
use Rattle.std.proofs.lemmas.List.Folds.{list_any_at}
use Rattle.std.proofs.lemmas.Slice.Eq.{bytes_eq-Decides}
use Rattle.shelf_io.specs.Asked.{AsksUpTo}
use Rattle.shelf_io.specs.Files.{Files}
use Rattle.job_report.specs.declared.limits.TheConstants.{JOB_TEXT_MOST}
use Rattle.job_report.specs.declared.job.Job.{Job}
use Rattle.job_report.specs.declared.job.ProgramJob.{ProgramJob}
use Rattle.job_report.specs.Refusal.{OfField, first_refusal, place_of_program}
use Rattle.job_report.specs.SharedFile.{refusals_of_files}
use Rattle.job_report.proofs.Numbers.{list_any-map}
use Rattle.job_programs.specs.Told.{AsksForPrograms}
use Rattle.program_reader.specs.declared.limits.TheConstants.{FILE_BYTES_MOST}
use Rattle.job_files.specs.JobFile.{HoldsJob, StandsApart}
use Rattle.job_files.specs.Stops.{AsksForJob}

-- where no program stands in a file that is named, no test finds one
none_named : (named : List (List ℕ)) (n : ℕ) (programs : List ProgramJob) → first_refusal (refusals_of_files named n programs) ≡ None
    → list_any (λ program. list_any (bytes_eq program.file) named) programs ≡ false
none_named named n [] none = refl
none_named named n (program ∷ programs) none = by_test (list_any (bytes_eq program.file) named) refl (λ rest. none_named named (n + 1) programs rest)
  where
    by_test : (test : Bool) → list_any (bytes_eq program.file) named ≡ test
        → (first_refusal (refusals_of_files named (n + 1) programs) ≡ None → list_any (λ p. list_any (bytes_eq p.file) named) programs ≡ false)
        → list_any (λ p. list_any (bytes_eq p.file) named) (program ∷ programs) ≡ false
    by_test true is below =
        let some : first_refusal (refusals_of_files named n (program ∷ programs)) ≡ Some (OfField (place_of_program n ++ codes "file")) = rw is refl in
        cc
    by_test false is below =
        let rest : first_refusal (refusals_of_files named n (program ∷ programs)) ≡ first_refusal (refusals_of_files named (n + 1) programs) = rw is refl in
        rw is (below (sym rest ∙ none))

-- a name that is listed is found
found_name : (names : List (List ℕ)) (name : List ℕ) → Contains names name → list_any (bytes_eq name) names ≡ true
found_name names name (k, within, is) = list_any_at (bytes_eq name) names k name within ((bytes_eq-Decides name _).1 (sym is))

-- so a named file is that of no program
pub stands_apart : (named : List (List ℕ)) (name : List ℕ) (job : Job) → StandsApart named job → Contains named name
    → Contains (map (λ program. program.file) job.programs) name → ⊥
stands_apart named name job apart is_named (k, within, is) =
    let test : List ℕ → Bool = λ file. list_any (bytes_eq file) named in
    let file_of : ProgramJob → List ℕ = λ program. program.file in
    let here : test (slice_index_or (map file_of job.programs) k name) ≡ true = ap test is ∙ found_name named name is_named in
    let some : list_any test (map file_of job.programs) ≡ true = list_any_at test (map file_of job.programs) k name within here in
    let none : list_any (λ program. test (file_of program)) job.programs ≡ false = none_named named 0 job.programs apart in
    let same : list_any test (map file_of job.programs) ≡ list_any (λ program. test (file_of program)) job.programs = list_any-map test file_of job.programs in
    cc

-- nor in a job that a file holds
pub held_apart : (told : Option Files) (name : List ℕ) (named : List (List ℕ)) (file : List ℕ) → Contains named file → (job : Job) → HoldsJob told name named job
    → Contains (map (λ program. program.file) job.programs) file → ⊥
held_apart told name named file is_named job holds among = stands_apart named file job holds.is_job.apart is_named among

-- a job's own file alone was asked for bytes
pub asks_text : (told : Option Files) (name : List ℕ) (named : List (List ℕ)) (old new : List ℕ → ℕ)
    → ((job : Job) → HoldsJob told name named job → Contains (map (λ program. program.file) job.programs) name → ⊥)
    → AsksUpTo name (JOB_TEXT_MOST + 1) old new → AsksForJob told name named old new
asks_text told name named old new apart asks = record {
  within = λ file limit is. elim is [
    | inl own ↦ subst (λ (n : List ℕ). new n ≤ max (old n) (limit + 1)) (sym own.0)
        (subst (λ (l : ℕ). new name ≤ max (old name) (l + 1)) (sym own.1) asks.here)
    | inr (job, holds, among, most) ↦
        let less = asks.others file (λ same. apart job holds (subst (λ (f : List ℕ). Contains (map (λ program. program.file) job.programs) f) same among)) in
        omega arith
  ];
  others = λ file none. asks.others file (λ same. none JOB_TEXT_MOST (inl (same, refl)));
}

-- then the files of its programs
pub asks_programs : (told : Option Files) (name : List ℕ) (named : List (List ℕ)) (job : Job) (old middle new : List ℕ → ℕ) → HoldsJob told name named job
    → ((other : Job) → HoldsJob told name named other → Contains (map (λ program. program.file) other.programs) name → ⊥)
    → AsksUpTo name (JOB_TEXT_MOST + 1) old middle → AsksForPrograms job.programs middle new → AsksForJob told name named old new
asks_programs told name named job old middle new holds apart first second = record {
  within = λ file limit is. elim is [
    | inl own ↦
        let kept : new name ≤ middle name = elim (second name) [ inl less ↦ less | inr more ↦ absurd (apart job holds more.0) ] in
        let here = first.here in
        subst (λ (n : List ℕ). new n ≤ max (old n) (limit + 1)) (sym own.0)
        (subst (λ (l : ℕ). new name ≤ max (old name) (l + 1)) (sym own.1) (omega arith))
    | inr (other, has, among, most) ↦
        let before : middle file ≤ old file =
        first.others file (λ same. apart other has (subst (λ (f : List ℕ). Contains (map (λ program. program.file) other.programs) f) same among)) in
        subst (λ (l : ℕ). new file ≤ max (old file) (l + 1)) (sym most) (elim (second file) [ inl less ↦ omega arith | inr more ↦ let within = more.1 in omega arith ])
  ];
  others = λ file none.
      let before : middle file ≤ old file = first.others file (λ same. none JOB_TEXT_MOST (inl (same, refl))) in
      elim (second file) [ inl less ↦ omega arith | inr more ↦ absurd (none FILE_BYTES_MOST (inr (job, holds, more.0, refl))) ];
}
