-- The steps from a job to its table.
use Rattle.std.specs.Prelude.{◌≡◌, ℕ, List, ◌∷◌, ◌++◌, length}
use Rattle.job_report.specs.declared.job.Job.{Job}
use Rattle.job_report.specs.declared.job.ProgramJob.{ProgramJob}
use Rattle.job_files.specs.declared.job_stop.JobStop.{JobStop}
use Rattle.job_files.specs.declared.job_stop.JobStop.TheVariants.{Unread, Missing, OutOfMemory}

-- the program of this number in a job
pub record IsProgramAt (job : Job) (number : ℕ) (program : ProgramJob) : Type 0 where
  pub before : List ProgramJob
  pub after : List ProgramJob
  pub split : job.programs ≡ before ++ program ∷ after
  pub number_is : number ≡ length before

-- this file can't be read, or memory was wanted
abbrev pub IsUnread : (name : List ℕ) → JobStop → Type 0
IsUnread name (Unread file) = file ≡ name
IsUnread name OutOfMemory = Unit {0}
IsUnread name stop = ⊥

-- this file isn't there, or memory was wanted
abbrev pub IsMissing : (name : List ℕ) → JobStop → Type 0
IsMissing name (Missing file) = file ≡ name
IsMissing name OutOfMemory = Unit {0}
IsMissing name stop = ⊥
