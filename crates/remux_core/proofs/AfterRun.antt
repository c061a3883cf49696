-- What `run` leaves, `check` accepts.
use Rattle.std.proofs.Common.{◌≡◌, ◌+◌, ℕ, Bool, true, false, ◌||◌, List, [], ◌∷◌, ◌++◌, codes, Some, None, refl, sym, ◌∙◌}
use Rattle.std.specs.List.{list_any}
use Rattle.std.specs.Str.{bytes_eq}
use Rattle.std.proofs.lemmas.Slice.Eq.{bytes_eq-Decides}
use Rattle.std.specs.FinMap.{get, insert}
use Rattle.bound_certificate.specs.Spelling.{cert_spelling}
use Rattle.job_programs.specs.Told.{HoldContents}
use Rattle.job_report.specs.declared.job.ProgramJob.{ProgramJob}
use Rattle.job_report.specs.Refusal.{OfField, first_refusal, place_of_program}
use Rattle.job_report.specs.SharedFile.{refusals_of_files}
use Rattle.job_files.specs.JobTable.{IsJobTable}
use Rattle.shelf_io.specs.Files.{Files}
use Rattle.command_words.specs.declared.status.Status.TheVariants.{Ok}
use Rattle.check_command.specs.CheckCommand.{CheckCallsFor, files_of_check}
use Rattle.command_words.specs.Command.{IsRunCommand}
use Rattle.run_command.specs.RunCommand.{RunDone}
use Rattle.command_words.proofs.Contents.{get_own, get_other, stays}

-- whether a file is one of these three
abbrev is_one : (file a b c : List ℕ) → Bool
is_one file a b c = list_any (bytes_eq file) (a ∷ b ∷ c ∷ [])

-- one of three tests fails where all fail
first_and_last : (x y z : Bool) → (x || (y || (z || false))) ≡ false → (x || (z || false)) ≡ false
first_and_last true y z none = none
first_and_last false true z none = cc
first_and_last false false z none = none

second_fails : (x y z : Bool) → (x || (y || (z || false))) ≡ false → y ≡ false
second_fails true y z none = cc
second_fails false true z none = none
second_fails false false z none = refl

third_fails : (x y z : Bool) → (x || (y || (z || false))) ≡ false → z ≡ false
third_fails true y z none = cc
third_fails false true z none = cc
third_fails false false true none = none
third_fails false false false none = refl

-- names that aren't equal by their test
differ : (file name : List ℕ) → bytes_eq file name ≡ false → file ≡ name → ⊥
differ file name test same = let yes : bytes_eq file name ≡ true = (bytes_eq-Decides file name).1 same in cc

-- the first program stands apart, and so do the others
pub record FirstApart (a b c : List ℕ) (n : ℕ) (program : ProgramJob) (programs : List ProgramJob) : Type 0 where
  pub first : is_one program.file a b c ≡ false
  pub others : first_refusal (refusals_of_files (a ∷ b ∷ c ∷ []) (n + 1) programs) ≡ None

first_apart : (a b c : List ℕ) (n : ℕ) (program : ProgramJob) (programs : List ProgramJob)
    → first_refusal (refusals_of_files (a ∷ b ∷ c ∷ []) n (program ∷ programs)) ≡ None → FirstApart a b c n program programs
first_apart a b c n program programs none = by_test (is_one program.file a b c) refl
  where
    by_test : (test : Bool) → is_one program.file a b c ≡ test → FirstApart a b c n program programs
    by_test true is = let some : first_refusal (refusals_of_files (a ∷ b ∷ c ∷ []) n (program ∷ programs)) ≡ Some (OfField (place_of_program n ++ codes "file")) = rw is refl in cc
    by_test false is =
        let rest : first_refusal (refusals_of_files (a ∷ b ∷ c ∷ []) n (program ∷ programs)) ≡ first_refusal (refusals_of_files (a ∷ b ∷ c ∷ []) (n + 1) programs) = rw is refl in
        record { first = is; others = sym rest ∙ none }

-- programs that stand in none of three files stand in none of two of them
fewer_apart : (a b c : List ℕ) (n : ℕ) (programs : List ProgramJob) → first_refusal (refusals_of_files (a ∷ b ∷ c ∷ []) n programs) ≡ None
    → first_refusal (refusals_of_files (a ∷ c ∷ []) n programs) ≡ None
fewer_apart a b c n [] none = refl
fewer_apart a b c n (program ∷ programs) none =
    let apart = first_apart a b c n program programs none in
    let test : list_any (bytes_eq program.file) (a ∷ c ∷ []) ≡ false =
    first_and_last (bytes_eq program.file a) (bytes_eq program.file b) (bytes_eq program.file c) apart.first in
    rw test (fewer_apart a b c (n + 1) programs apart.others)

-- the files of programs are as they were
kept_contents : (files after : Files) (a b c : List ℕ) → ((name : List ℕ) → (name ≡ b → ⊥) → (name ≡ c → ⊥) → get after name ≡ get files name)
    → (n : ℕ) (programs : List ProgramJob) (contents : List (List ℕ)) → first_refusal (refusals_of_files (a ∷ b ∷ c ∷ []) n programs) ≡ None
    → HoldContents files programs contents → HoldContents after programs contents
kept_contents files after a b c same n [] [] none holds = tt
kept_contents files after a b c same n [] (content ∷ contents) none holds = absurd holds
kept_contents files after a b c same n (program ∷ programs) [] none holds = tt
kept_contents files after a b c same n (program ∷ programs) (content ∷ contents) none holds =
    let apart = first_apart a b c n program programs none in
    let second = second_fails (bytes_eq program.file a) (bytes_eq program.file b) (bytes_eq program.file c) apart.first in
    let third = third_fails (bytes_eq program.file a) (bytes_eq program.file b) (bytes_eq program.file c) apart.first in (
      same program.file (differ program.file b second) (differ program.file c third) ∙ holds.0,
      kept_contents files after a b c same (n + 1) programs contents apart.others holds.1,
    )

pub run_is_accepted : (words : List (List ℕ)) (job out certificate : List ℕ) (files after : Files) (line : List ℕ) → IsRunCommand words job out certificate
    → RunDone job out certificate files line after → CheckCallsFor job certificate (Some after) Ok
run_is_accepted words job out certificate files after line said (work, is, says, written) =
    let same : (name : List ℕ) → (name ≡ out → ⊥) → (name ≡ certificate → ⊥) → get after name ≡ get files name =
    λ name a b. stays _ after name written ∙ get_other (insert files out work.stream) certificate _ name b ∙ get_other files out _ name a in
    let holds = is.made.holds in
    let apart = holds.is_job.apart in
    let job_held = same job said.job_out_apart said.job_certificate_apart ∙ holds.held in
    let made_is : IsJobTable (Some after) job (files_of_check job certificate) work.made = record {
      holds = record {
        text = holds.text;
        held = job_held;
        is_job = record { spells = holds.is_job.spells; apart = fewer_apart job out certificate 0 work.made.job.programs apart };
      };
      programs = record {
        read = is.made.programs.read;
        held = record {
          contents = is.made.programs.held.contents;
          held = kept_contents files after job out certificate same 0 work.made.job.programs is.made.programs.held.contents apart is.made.programs.held.held;
          are = is.made.programs.held.are;
        };
      };
      table = is.made.table;
    } in
    let held : get after certificate ≡ Some (cert_spelling work.cert) = stays _ after certificate written ∙ get_own (insert files out work.stream) certificate (cert_spelling work.cert) in
    let plan = is.is_plan in (
      work.made,
      work.cert,
      record { made_is = made_is; cert_is = record { bytes = cert_spelling work.cert; held = held; read = (plan.writable.bytes, plan.is_cert, refl) } },
      plan.faultless,
    )
