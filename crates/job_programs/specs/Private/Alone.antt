-- A program is read by itself.
use Rattle.std.specs.Prelude.{◌≡◌, ℕ, List}
use Rattle.program_reader.specs.declared.program_fault.ProgramFault.{ProgramFault}
use Rattle.program_reader.specs.declared.program_fault.ProgramFault.TheVariants as faults
use Rattle.job_programs.specs.declared.source_fault.ProgramsFault.{ProgramsFault}
use Rattle.job_programs.specs.declared.source_fault.ProgramsFault.TheVariants.{Refused, Failed, Missing, OutOfMemory}
use Rattle.job_programs.specs.Alone.{IsAloneRefused}

-- what the bytes of a file are refused for, or want of memory
abbrev pub IsAloneFault : (slot start number : ℕ) → (content : List ℕ) → ProgramFault → Type 0
IsAloneFault slot start number content (faults.Refused kind at) = IsAloneRefused slot start number content kind at
IsAloneFault slot start number content faults.OutOfMemory = Unit {0}

-- the same as that of the first program of a job
abbrev pub IsAloneContentFault : (slot start number : ℕ) → (content : List ℕ) → ProgramsFault → Type 0
IsAloneContentFault slot start number content (Refused fault) = (fault.program ≡ 0) × IsAloneRefused slot start number content fault.kind fault.at
IsAloneContentFault slot start number content (Failed stopped) = ⊥
IsAloneContentFault slot start number content (Missing stopped) = ⊥
IsAloneContentFault slot start number content OutOfMemory = Unit {0}
