-- Which files `fit` asks for.
use Rattle.std.proofs.Common.{◌≡◌, ◌+◌, ◌≤◌, ℕ, List, Option, max, map, Contains, refl, sym, subst, ◌∙◌, inl, inr, arith}
use Rattle.command_words.specs.Task.{AsksOnly}
use Rattle.job_files.specs.JobFile.{HoldsJob}
use Rattle.job_files.proofs.Asked.{held_apart}
use Rattle.job_programs.specs.Told.{AsksForPrograms}
use Rattle.job_report.specs.declared.job.Job.{Job}
use Rattle.job_report.specs.declared.job.ProgramJob.{ProgramJob}
use Rattle.job_report.specs.declared.limits.TheConstants.{JOB_TEXT_MOST}
use Rattle.program_reader.specs.declared.limits.TheConstants.{FILE_BYTES_MOST}
use Rattle.shelf_io.specs.Asked.{AsksUpTo}
use Rattle.shelf_io.specs.Files.{Files}
use Rattle.fit_command.specs.declared.limits.TheConstants.{LIST_BYTES_MOST}
use Rattle.fit_command.specs.FitCommand.{files_of_fit, fit_task}

-- neither JOB nor LIST is the file of a program
name_apart : (told : Option Files) (name list : List ℕ) (job : Job) → HoldsJob told name (files_of_fit name list) job
    → Contains (map (λ (program : ProgramJob). program.file) job.programs) name → ⊥
name_apart told name list job holds among = held_apart told name (files_of_fit name list) name (0, omega arith, refl) job holds among

list_apart : (told : Option Files) (name list : List ℕ) (job : Job) → HoldsJob told name (files_of_fit name list) job
    → Contains (map (λ (program : ProgramJob). program.file) job.programs) list → ⊥
list_apart told name list job holds among = held_apart told name (files_of_fit name list) list (1, omega arith, refl) job holds among

-- `fit` asks for JOB
pub asks_job : (told : Option Files) (name list : List ℕ) (old new : List ℕ → ℕ) → (name ≡ list → ⊥) → AsksUpTo name (JOB_TEXT_MOST + 1) old new
    → AsksOnly (fit_task name list) told old new
asks_job told name list old new apart asks = record {
  within = λ file limit reads. elim reads [
    | inl (inl own) ↦ subst (λ (n : List ℕ). new n ≤ max (old n) (limit + 1)) (sym own.0) (subst (λ (l : ℕ). new name ≤ max (old name) (l + 1)) (sym own.1) asks.here)
    | inl (inr (job, holds, among, most)) ↦
        let less = asks.others file (λ same. name_apart told name list job holds (subst (λ (f : List ℕ). Contains (map (λ (p : ProgramJob). p.file) job.programs) f) same among)) in
        omega (arith, less)
    | inr own ↦ let less = asks.others file (λ same. apart (sym same ∙ own.0)) in omega (arith, less)
  ];
  others = λ file none. asks.others file (λ same. none JOB_TEXT_MOST (inl (inl (same, refl))));
}

-- then for LIST
pub asks_list : (told : Option Files) (name list : List ℕ) (old new : List ℕ → ℕ) → (name ≡ list → ⊥) → AsksUpTo list (LIST_BYTES_MOST + 1) old new
    → AsksOnly (fit_task name list) told old new
asks_list told name list old new apart asks = record {
  within = λ file limit reads. elim reads [
    | inl (inl own) ↦ let less = asks.others file (λ same. apart (sym own.0 ∙ same)) in omega (arith, less)
    | inl (inr (job, holds, among, most)) ↦
        let less = asks.others file (λ same. list_apart told name list job holds (subst (λ (f : List ℕ). Contains (map (λ (p : ProgramJob). p.file) job.programs) f) same among)) in
        omega (arith, less)
    | inr own ↦ subst (λ (n : List ℕ). new n ≤ max (old n) (limit + 1)) (sym own.0) (subst (λ (l : ℕ). new list ≤ max (old list) (l + 1)) (sym own.1) asks.here)
  ];
  others = λ file none. asks.others file (λ same. none LIST_BYTES_MOST (inr (same, refl)));
}

-- and then for the files of the programs
pub asks_programs : (told : Option Files) (name list : List ℕ) (job : Job) (old new : List ℕ → ℕ) → HoldsJob told name (files_of_fit name list) job
    → AsksForPrograms job.programs old new → AsksOnly (fit_task name list) told old new
asks_programs told name list job old new holds asks = record {
  within = λ file limit reads. elim reads [
    | inl (inl own) ↦ elim (asks file) [
      | inl less ↦ omega (arith, less)
      | inr more ↦ absurd (name_apart told name list job holds (subst (λ (f : List ℕ). Contains (map (λ (p : ProgramJob). p.file) job.programs) f) own.0 more.0))
    ]
    | inl (inr (other, has, among, most)) ↦ elim (asks file) [
      | inl less ↦ omega (arith, less)
      | inr more ↦ let up = more.1 in subst (λ (l : ℕ). new file ≤ max (old file) (l + 1)) (sym most) up
    ]
    | inr own ↦ elim (asks file) [
      | inl less ↦ omega (arith, less)
      | inr more ↦ absurd (list_apart told name list job holds (subst (λ (f : List ℕ). Contains (map (λ (p : ProgramJob). p.file) job.programs) f) own.0 more.0))
    ]
  ];
  others = λ file none. elim (asks file) [
    | inl less ↦ less
    | inr more ↦ absurd (none FILE_BYTES_MOST (inl (inr (job, holds, more.0, refl))))
  ];
}
