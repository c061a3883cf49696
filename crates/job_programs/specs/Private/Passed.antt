-- The next program, and the first programs of a job, are read without the bytes of their streams.
use Rattle.std.specs.Prelude.{◌≡◌, ℕ, ◌+◌, ◌<◌, ◌≤◌, List, length, Option}
use Rattle.std.specs.List.{AllZip}
use Rattle.shelf_io.specs.Files.{Files}
use Rattle.job_report.specs.declared.job.Form.{Form}
use Rattle.job_report.specs.declared.job.ProgramJob.{ProgramJob}
use Rattle.passed_programs.specs.declared.passed_fault.PassedFault.{PassedFault}
use Rattle.passed_programs.specs.declared.passed_fault.PassedFault.TheVariants as passed_faults
use Rattle.passed_programs.specs.declared.passed_program.PassedProgram.{PassedProgram}
use Rattle.passed_programs.specs.declared.sized_passed.SizedPassed.{SizedPassed}
use Rattle.passed_programs.specs.PassedProgram.{IsReadOff}
use Rattle.program_reader.specs.declared.limits.TheConstants.{UNITS_MOST}
use Rattle.program_reader.specs.declared.program.Program.{Program}
use Rattle.program_reader.specs.declared.program_fault.ProgramFault.TheVariants as program_faults
use Rattle.program_reader.specs.declared.program_fault.SourceKind.TheVariants as kinds
use Rattle.program_reader.specs.declared.unit_sizes.UnitSizes.{UnitSizes}
use Rattle.job_programs.specs.declared.source_fault.ProgramsFault.{ProgramsFault}
use Rattle.job_programs.specs.declared.source_fault.ProgramsFault.TheVariants.{Refused, Failed, Missing, OutOfMemory}
use Rattle.job_programs.specs.Passed.{IsSizedOff}
use Rattle.job_programs.specs.Share.{KeepsShare}
use Rattle.job_programs.specs.Sizes.{AreJobSizes}
use Rattle.job_programs.specs.Private.Behind.{KeepsTime}
use Rattle.job_programs.specs.Private.Next.{IsNextOn}
use Rattle.job_programs.specs.Private.ReadSoFar.{ReadSoFar}

-- ---- the next program

-- Behind programs of so many units the limits are kept that a program shares with them, and what it takes of its table.
pub record KeepsLimits (slot units : ℕ) (keeps : Program → Type 0) (program : Program) : Type 0 where
  pub few_units : units + length program.units ≤ UNITS_MOST
  pub within : KeepsTime slot program
  pub near : keeps program

-- Behind them it passes one of these.
pub data PassesLimits (slot units : ℕ) (keeps : Program → Type 0) (program : Program) : Type 0 where
  many_units : UNITS_MOST < units + length program.units → PassesLimits slot units keeps program
  late : ¬ KeepsTime slot program → PassesLimits slot units keeps program
  far : ¬ keeps program → PassesLimits slot units keeps program

-- The next program was read so, with the sizes of its units' versions.
pub record IsNextPassed (told : Option Files) (name : List ℕ) (slot start bytes units : ℕ) (form : Form) (number : ℕ) (drop : List ℕ) (weight drift : ℕ) (coarser : List ℕ) (passed : SizedPassed) : Type 0 where
  pub program : Program
  pub next : IsNextOn told name slot start bytes units form number drop (KeepsShare weight drift coarser) passed.size program
  pub sized_off : IsSizedOff program coarser passed

-- why a program isn't read, as that of the program at a place of its job
abbrev pub fault_at : (place : ℕ) → PassedFault → ProgramsFault
fault_at place (passed_faults.Refused (program_faults.Refused kind at)) = Refused (record { program = place; kind = kind; at = at })
fault_at place (passed_faults.Refused program_faults.OutOfMemory) = OutOfMemory
fault_at place passed_faults.Failed = Failed place
fault_at place passed_faults.Missing = Missing place

-- the program at a place of its job passes a limit
abbrev pub over_limit : (place : ℕ) → ProgramsFault
over_limit place = Refused (record { program = place; kind = kinds.ProgramLimit; at = 0 })

-- ---- the first programs of a job

-- The first programs of a job were read so, of files with so many bytes, and have so many units together.
pub record PassedSoFar (told : Option Files) (slot start : ℕ) (done : List ProgramJob) (passed : List PassedProgram) (sizes : List (List UnitSizes)) (bytes units : ℕ) : Type 0 where
  pub programs : List Program
  pub read : ReadSoFar told slot start done programs bytes units
  pub read_off : AllZip IsReadOff programs passed
  pub are_sizes : AreJobSizes done programs sizes
