-- A program that was read by passes over a file of a shelf, and why there is none (this project's).
use Rattle.std.specs.Prelude.{◌≡◌, ◌⊎◌, ℕ, ◌<◌, ◌≤◌, true, List, length, Option, None, Some, Result, Ok, Err}
use Rattle.shelf_io.specs.declared.fault.Fault.{Fault}
use Rattle.shelf_io.specs.declared.fault.Fault.TheVariants as outside
use Rattle.shelf_io.specs.Files.{Files, IfTold}
use Rattle.job_report.specs.declared.job.Form.{Form}
use Rattle.program_reader.specs.declared.program.Program.{Program}
use Rattle.program_reader.specs.declared.program_fault.ProgramFault.{ProgramFault}
use Rattle.program_reader.specs.declared.program_fault.ProgramFault.TheVariants as program_faults
use Rattle.program_reader.specs.declared.program_fault.SourceKind.TheVariants as kinds
use Rattle.program_reader.specs.declared.unit_sizes.SizesWanted.{SizesWanted}
use Rattle.program_reader.specs.Programs.{IsProgramOfFile, IsProgramRefused}
use Rattle.program_reader.specs.Sizes.{AreProgramSizes}
use Rattle.program_reader.specs.ReadProgram.{IsReadProgram}
use Rattle.passed_programs.specs.declared.passed_fault.PassedFault.{PassedFault}
use Rattle.passed_programs.specs.declared.passed_fault.PassedFault.TheVariants.{Failed, Missing, Refused}
use Rattle.passed_programs.specs.declared.sized_passed.SizedPassed.{SizedPassed}
use Rattle.passed_programs.specs.PassedProgram.{IsReadOff}

-- ---- the program

-- A program that was read of a file of no more bytes than a limit, without the bytes of its streams, with the sizes of its units' versions where they are wanted; and what
-- is said of it, and of how many bytes the file has, where files are told.
pub record IsPassedProgram (start limit : ℕ) (wanted : SizesWanted) (told : (size : ℕ) → Program → Type 0) (passed : SizedPassed) : Type 0 where
  pub program : Program
  pub read : IsReadProgram start program
  pub read_off : IsReadOff program passed.program
  pub sized : wanted.are_wanted ≡ true → AreProgramSizes program wanted.coarser.now passed.sizes
  pub within : passed.size ≤ limit
  pub on_told : told passed.size program

-- a file of so many bytes holds this program of a number, where files are told
abbrev pub HoldsProgram : Option Files → (name : List ℕ) → (form : Form) → (number : ℕ) → (drop : List ℕ) → (start size : ℕ) → Program → Type 0
HoldsProgram told name form number drop start size program = IfTold told name (λ file. (size ≡ length file) × IsProgramOfFile form file number drop start program)

-- ---- why there is none

-- what is said of a limit that is passed
abbrev pub passes_limit : ProgramFault
passes_limit = program_faults.Refused kinds.ProgramLimit 0

-- what refuses a file that may have so many bytes: that it is longer, which comes first, or what refuses it by itself
pub data IsRefusedWithin (limit : ℕ) (form : Form) (number : ℕ) (drop : List ℕ) (file : List ℕ) (fault : ProgramFault) : Type 0 where
  long : limit < length file → fault ≡ passes_limit → IsRefusedWithin limit form number drop file fault
  by_itself : length file ≤ limit → IsProgramRefused form file number drop fault → IsRefusedWithin limit form number drop file fault

-- what is said of a refusal: where files are told, of the file; want of memory may come at any time
abbrev pub OnRefused : PassedFault → (ProgramFault → Type 0) → Type 0
OnRefused (Refused fault) says = (fault ≡ program_faults.OutOfMemory) ⊎ says fault
OnRefused Failed says = Unit {0}
OnRefused Missing says = Unit {0}

-- how the reads of a file ended by what is answered of it
abbrev pub stop_of : PassedFault → Option Fault
stop_of (Refused fault) = None
stop_of Failed = Some outside.Failed
stop_of Missing = Some outside.Missing

-- and by what a call answers
abbrev pub stop_in : {T : Type 0} → Result T PassedFault → Option Fault
stop_in (Ok read) = None
stop_in (Err fault) = stop_of fault
