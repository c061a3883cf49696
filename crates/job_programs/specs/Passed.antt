-- Programs that were read for a job, or to be probed, without the bytes of their streams (this project's).
use Rattle.std.specs.Prelude.{ℕ, List, Option}
use Rattle.std.specs.List.{AllZip}
use Rattle.shelf_io.specs.Files.{Files}
use Rattle.job_report.specs.declared.job.Job.{Job}
use Rattle.job_report.specs.declared.limits.TheConstants.{COARSER_DEFAULT}
use Rattle.passed_programs.specs.declared.sized_passed.SizedPassed.{SizedPassed}
use Rattle.passed_programs.specs.PassedProgram.{IsReadOff}
use Rattle.program_reader.specs.declared.program.Program.{Program}
use Rattle.program_reader.specs.Sizes.{AreProgramSizes}
use Rattle.job_programs.specs.declared.passed.PassedPrograms.{PassedPrograms}
use Rattle.job_programs.specs.Sizes.{AreJobSizes}
use Rattle.job_programs.specs.Told.{AreProgramsOn, IsProbedOn}

-- ---- what is read off programs

-- This is all of a program but the bytes of its streams, with the sizes of its units' versions at some ratios.
pub record IsSizedOff (program : Program) (coarser : List ℕ) (passed : SizedPassed) : Type 0 where
  pub read_off : IsReadOff program passed.program
  pub are_sizes : AreProgramSizes program coarser passed.sizes

-- This is all of each program of a job but the bytes of its streams, with the sizes of its units' versions at the ratios that the job gives it.
pub record AreSizedOff (job : Job) (programs : List Program) (passed : PassedPrograms) : Type 0 where
  pub read_off : AllZip IsReadOff programs passed.programs
  pub are_sizes : AreJobSizes job.programs programs passed.sizes

-- ---- what is read so

-- the programs of a job were read so
pub record ArePassedOn (told : Option Files) (job : Job) (passed : PassedPrograms) : Type 0 where
  pub programs : List Program
  pub are : AreProgramsOn told job programs
  pub off : AreSizedOff job programs passed

-- the program of a file that is probed was read so, at the ratios of a job that says nothing else
pub record IsPassedProbed (told : Option Files) (name : List ℕ) (slot start number : ℕ) (drop : List ℕ) (passed : SizedPassed) : Type 0 where
  pub program : Program
  pub probed : IsProbedOn told name slot start number drop program
  pub off : IsSizedOff program COARSER_DEFAULT passed
