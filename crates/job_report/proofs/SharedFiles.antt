-- The first program whose file a command names itself.
use Rattle.std.proofs.Common.{◌≡◌, ℕ, ◌+◌, ◌<◌, Bool, true, false, List, ◌++◌, length, map, drop, get_or, codes, Some, Bor, refl, sym, ◌∙◌}
use Rattle.std.specs.List.{list_any}
use Rattle.std.specs.Str.{bytes_eq}
use Rattle.std.proofs.lemmas.List.{drop_more}
use Rattle.job_report.specs.declared.job.ProgramJob.{ProgramJob}
use Rattle.job_report.specs.Refusal.{OfField, place_of_program, first_refusal}
use Rattle.job_report.specs.SharedFile.{refusals_of_files}
use Rattle.job_report.proofs.Numbers.{list_any-map}

-- whether a file is named, by what the names point to
pub named : (names : List (Bor (List ℕ))) (file : List ℕ) (answer : Bool) → answer ≡ list_any (λ other. bytes_eq file other.now) names
    → list_any (bytes_eq file) (map (λ name. name.now) names) ≡ answer
named names file answer is = list_any-map (bytes_eq file) (λ name. name.now) names ∙ sym is

-- a file that isn't named
pub shared_later : (named : List (List ℕ)) (programs : List ProgramJob) (i : ℕ) (program : ProgramJob) → i < length programs
    → program ≡ get_or programs i program → list_any (bytes_eq program.file) named ≡ false
    → refusals_of_files named i (drop i programs) ≡ refusals_of_files named (i + 1) (drop (i + 1) programs)
shared_later named programs i program within is free = rw (drop_more programs i program within, sym is, free) refl

-- a file that is
pub shared_here : (named : List (List ℕ)) (programs : List ProgramJob) (i : ℕ) (program : ProgramJob) → i < length programs
    → program ≡ get_or programs i program → list_any (bytes_eq program.file) named ≡ true
    → first_refusal (refusals_of_files named i (drop i programs)) ≡ Some (OfField (place_of_program i ++ codes "file"))
shared_here named programs i program within is taken = rw (drop_more programs i program within, sym is, taken) refl
