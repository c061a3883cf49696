-- The next program is read.
use Rattle.std.specs.Prelude.{◌≡◌, ℕ, ◌+◌, ◌≤◌, List, length, Option}
use Rattle.shelf_io.specs.Files.{Files, IfTold, Lacks}
use Rattle.shelf_io.specs.Counts.{Rose, ShelfCounts}
use Rattle.job_report.specs.declared.job.Form.{Form}
use Rattle.program_reader.specs.declared.program.Program.{Program}
use Rattle.program_reader.specs.declared.program_fault.ProgramFault.{ProgramFault}
use Rattle.program_reader.specs.declared.program_fault.ProgramFault.TheVariants as faults
use Rattle.job_programs.specs.declared.source_fault.SourceFault.{SourceFault}
use Rattle.job_programs.specs.declared.source_fault.ProgramsFault.{ProgramsFault}
use Rattle.job_programs.specs.declared.source_fault.ProgramsFault.TheVariants.{Refused, Failed, Missing, OutOfMemory}
use Rattle.program_reader.specs.declared.limits.TheConstants.{FILE_BYTES_MOST, UNITS_MOST}
use Rattle.program_reader.specs.Programs.{IsProgramOfFile}
use Rattle.program_reader.specs.ReadProgram.{IsReadProgram}
use Rattle.job_programs.specs.Private.Behind.{IsRefusedBehind, KeepsTime}

-- what the next program's file is refused for, or want of memory
abbrev pub IsNextFault : (slot start bytes units : ℕ) → (form : Form) → (number : ℕ) → (drop : List ℕ) → (keeps : Program → Type 0) → (content : List ℕ) → ProgramFault → Type 0
IsNextFault slot start bytes units form number drop keeps content (faults.Refused kind at) = IsRefusedBehind slot start bytes units form number drop keeps content kind at
IsNextFault slot start bytes units form number drop keeps content faults.OutOfMemory = Unit {0}

-- The next program was read, of a file with so many bytes, and the limits that it shares with those before it are kept. Where the shelf tells its files it is
-- that of the file's content.
pub record IsNextOn (told : Option Files) (name : List ℕ) (slot start bytes units : ℕ) (form : Form) (number : ℕ) (drop : List ℕ) (keeps : Program → Type 0) (size : ℕ) (program : Program) : Type 0 where
  pub read : IsReadProgram start program
  pub few_bytes : bytes + size ≤ FILE_BYTES_MOST
  pub few_units : units + length program.units ≤ UNITS_MOST
  pub within : KeepsTime slot program
  pub near : keeps program
  pub held : IfTold told name (λ content. (size ≡ length content) × IsProgramOfFile form content number drop start program)

-- the refusal of the next program; where the shelf tells its files it is that of the file's content
pub record IsNextRefusedOn (told : Option Files) (name : List ℕ) (slot start bytes units : ℕ) (form : Form) (number : ℕ) (drop : List ℕ) (keeps : Program → Type 0) (place : ℕ) (fault : SourceFault) : Type 0 where
  pub place_is : fault.program ≡ place
  pub held : IfTold told name (λ content. IsRefusedBehind slot start bytes units form number drop keeps content fault.kind fault.at)

-- why the next program isn't read
abbrev pub HasNextCause : Option Files → (name : List ℕ) → (slot start bytes units : ℕ) → (form : Form) → (number : ℕ) → (drop : List ℕ) → (keeps : Program → Type 0) → (place : ℕ) → (old new : ShelfCounts) → (since_fault : ℕ)
    → ProgramsFault → Type 0
HasNextCause told name slot start bytes units form number drop keeps place old new since_fault (Refused fault) =
    IsNextRefusedOn told name slot start bytes units form number drop keeps place fault
HasNextCause told name slot start bytes units form number drop keeps place old new since_fault (Failed stopped) =
    (stopped ≡ place) × Rose old.faults new.faults × (since_fault ≡ 0)
HasNextCause told name slot start bytes units form number drop keeps place old new since_fault (Missing stopped) =
    (stopped ≡ place) × Lacks told name × Rose old.absences new.absences × (since_fault ≡ 0)
HasNextCause told name slot start bytes units form number drop keeps place old new since_fault OutOfMemory = Unit {0}

-- what the bytes of the next program's file are refused for, as that of the program at a place of its job, or want of memory
abbrev pub IsContentFault : (slot start bytes units : ℕ) → (form : Form) → (number : ℕ) → (drop : List ℕ) → (keeps : Program → Type 0) → (place : ℕ) → (content : List ℕ) → ProgramsFault → Type 0
IsContentFault slot start bytes units form number drop keeps place content (Refused fault) =
    (fault.program ≡ place) × IsRefusedBehind slot start bytes units form number drop keeps content fault.kind fault.at
IsContentFault slot start bytes units form number drop keeps place content (Failed stopped) = ⊥
IsContentFault slot start bytes units form number drop keeps place content (Missing stopped) = ⊥
IsContentFault slot start bytes units form number drop keeps place content OutOfMemory = Unit {0}
