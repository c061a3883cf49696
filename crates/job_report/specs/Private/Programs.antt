-- What is known in the middle of reading programs.
use Rattle.std.specs.Prelude.{◌≡◌, ℕ, ◌≤◌, List, [], length, map, take, drop}
use Rattle.toml.specs.Data.{Data}
use Rattle.job_report.specs.declared.job.ProgramJob.{ProgramJob}
use Rattle.job_report.specs.Job.{AreProgramsOf}
use Rattle.job_report.specs.Refusal.{refusals_of_programs, tables_among}

-- the numbers of programs
abbrev pub numbers_of_programs : List ProgramJob → List ℕ
numbers_of_programs programs = map (λ program. program.number) programs

-- so many values are read: their tables state these programs, and what is wrong with all is what is wrong with the rest
pub record AreReadSoFar (values : List Data) (count : ℕ) (programs : List ProgramJob) : Type 0 where
  pub few : length programs ≤ count
  pub stated : AreProgramsOf (tables_among (take count values)) programs
  pub rest : refusals_of_programs [] (tables_among values) ≡ refusals_of_programs (numbers_of_programs programs) (tables_among (drop count values))
