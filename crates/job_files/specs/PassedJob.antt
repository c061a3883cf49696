-- A job of a file with its programs, without the bytes of their streams, and their table.
use Rattle.std.specs.Prelude.{◌≡◌, ℕ, List, Option}
use Rattle.std.specs.List.{AllZip}
use Rattle.job_report.specs.declared.job.Job.{Job}
use Rattle.shelf_io.specs.Files.{Files}
use Rattle.passed_programs.specs.PassedProgram.{IsReadOff}
use Rattle.job_files.specs.declared.job_table.JobTable.{JobTable}
use Rattle.job_files.specs.declared.passed_job.PassedJob.{PassedJob}
use Rattle.job_files.specs.JobTable.{IsJobTable, IsTableOfJob}

-- This is a job with its table, and all of its programs but the bytes of their streams.
pub record IsJobOff (made : JobTable) (passed : PassedJob) : Type 0 where
  pub job_is : passed.job ≡ made.job
  pub read_off : AllZip IsReadOff made.programs passed.programs
  pub table_is : passed.table ≡ made.table

-- the job in a file was read so
pub record IsJobPassed (told : Option Files) (name : List ℕ) (named : List (List ℕ)) (passed : PassedJob) : Type 0 where
  pub made : JobTable
  pub is_table : IsJobTable told name named made
  pub off : IsJobOff made passed

-- the programs of a job were read so
pub record IsPassedOfJob (told : Option Files) (job : Job) (passed : PassedJob) : Type 0 where
  pub made : JobTable
  pub is_table : IsTableOfJob told job made
  pub off : IsJobOff made passed
