-- The first programs of a job are read.
use Rattle.std.specs.Prelude.{◌≡◌, ℕ, ◌≤◌, List, Option, IfSome}
use Rattle.shelf_io.specs.Files.{Files}
use Rattle.job_report.specs.declared.job.ProgramJob.{ProgramJob}
use Rattle.program_reader.specs.declared.limits.TheConstants.{FILE_BYTES_MOST}
use Rattle.program_reader.specs.declared.program.Program.{Program}
use Rattle.job_programs.specs.Programs.{bytes_of_files, units_of_programs}
use Rattle.job_programs.specs.Read.{AreReadFor}
use Rattle.job_programs.specs.Told.{HoldContents}
use Rattle.job_programs.specs.Private.Behind.{AreProgramsOf}

-- files that are told hold the first programs of a job, and have so many bytes together
pub record HoldSoFar (files : Files) (slot start : ℕ) (done : List ProgramJob) (programs : List Program) (bytes : ℕ) : Type 0 where
  pub contents : List (List ℕ)
  pub held : HoldContents files done contents
  pub are : AreProgramsOf slot start done contents programs
  pub bytes_are : bytes ≡ bytes_of_files contents

-- the first programs of a job were read, of files with so many bytes, and have so many units together
pub record ReadSoFar (told : Option Files) (slot start : ℕ) (done : List ProgramJob) (programs : List Program) (bytes units : ℕ) : Type 0 where
  pub read : AreReadFor slot start done programs
  pub units_are : units ≡ units_of_programs programs
  pub few_bytes : bytes ≤ FILE_BYTES_MOST
  pub held : IfSome told (λ files. HoldSoFar files slot start done programs bytes)
