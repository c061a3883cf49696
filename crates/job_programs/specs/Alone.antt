-- One program of a transport stream by itself, of which no table is made (this project's).
use Rattle.std.specs.Prelude.{◌≡◌, ℕ, List, [], Option, Some}
use Rattle.shelf_io.specs.Counts.{ShelfCounts}
use Rattle.shelf_io.specs.Files.{Files}
use Rattle.job_report.specs.declared.job.Form.TheVariants.{Ts}
use Rattle.program_reader.specs.declared.program.Program.{Program}
use Rattle.program_reader.specs.declared.program_fault.ProgramFault.TheVariants.{Refused}
use Rattle.program_reader.specs.declared.program_fault.SourceKind.{SourceKind}
use Rattle.program_reader.specs.declared.program_fault.SourceKind.TheVariants.{ProgramLimit}
use Rattle.program_reader.specs.Programs.{IsProgramOfFile, IsProgramRefused}
use Rattle.job_programs.specs.declared.source_fault.ProgramsFault.{ProgramsFault}
use Rattle.job_programs.specs.declared.source_fault.SourceFault.{SourceFault}
use Rattle.job_programs.specs.Programs.{IsWithinTime}
use Rattle.job_programs.specs.Told.{HasFileCause, HoldsContent}

-- ---- a content

-- A file holds this program of a number with all its audio streams, and none of its times is past the last one that a stream of such slots reaches.
pub record IsAlone (slot start number : ℕ) (content : List ℕ) (program : Program) : Type 0 where
  pub holds : IsProgramOfFile Ts content number [] start program
  pub within : IsWithinTime slot program

-- What refuses a file whose program is read by itself: what refuses the file, else a time past the last.
pub data IsAloneRefused (slot start number : ℕ) (content : List ℕ) (kind : SourceKind) (at : ℕ) : Type 0 where
  file : IsProgramRefused Ts content number [] (Refused kind at) → IsAloneRefused slot start number content kind at
  late : (program : Program) → IsProgramOfFile Ts content number [] start program → ¬ IsWithinTime slot program → kind ≡ ProgramLimit → at ≡ 0
      → IsAloneRefused slot start number content kind at

-- ---- on told files

-- a file holds this content, where files are told, and this program by itself
pub record IsAloneOn (told : Option Files) (name : List ℕ) (slot start number : ℕ) (content : List ℕ) (program : Program) : Type 0 where
  pub held : HoldsContent told name content
  pub alone : IsAlone slot start number content program

-- the refusal of a file whose program is read by itself, as that of the first program of a job
pub record IsAloneRefusedOn (told : Option Files) (name : List ℕ) (slot start number : ℕ) (fault : SourceFault) : Type 0 where
  pub first : fault.program ≡ 0
  pub content : List ℕ
  pub held : HoldsContent told name content
  pub refused : IsAloneRefused slot start number content fault.kind fault.at

-- why a file's program isn't read by itself: that, or what failed outside
abbrev pub HasAloneCause : Option Files → (name : List ℕ) → (slot start number : ℕ) → (old new : ShelfCounts) → (since_fault : ℕ) → ProgramsFault → Type 0
HasAloneCause told name slot start number = HasFileCause (IsAloneRefusedOn told name slot start number) told name
