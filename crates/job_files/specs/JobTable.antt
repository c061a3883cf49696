-- A job of a file with its programs and their table.
use Rattle.std.specs.Prelude.{◌≡◌, ℕ, List, Option}
use Rattle.job_report.specs.declared.job.Job.{Job}
use Rattle.shelf_io.specs.Files.{Files}
use Rattle.job_programs.specs.Told.{AreProgramsOn}
use Rattle.program_table.specs.Table.{IsTableOf}
use Rattle.job_files.specs.declared.job_table.JobTable.{JobTable}
use Rattle.job_files.specs.JobFile.{HoldsJob}

-- a file holds the text of the job, the files that it names hold its programs, and this is their table
pub record IsJobTable (told : Option Files) (name : List ℕ) (named : List (List ℕ)) (made : JobTable) : Type 0 where
  pub holds : HoldsJob told name named made.job
  pub programs : AreProgramsOn told made.job made.programs
  pub table : IsTableOf made.job made.programs made.table

-- these are the job, its programs and their table
pub record IsTableOfJob (told : Option Files) (job : Job) (made : JobTable) : Type 0 where
  pub job_is : made.job ≡ job
  pub programs : AreProgramsOn told made.job made.programs
  pub table : IsTableOf made.job made.programs made.table
