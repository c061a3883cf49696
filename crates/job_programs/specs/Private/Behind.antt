-- Programs behind others, by the sums of what is before them, and of all of them at once.
use Rattle.std.specs.Prelude.{◌≡◌, ℕ, ◌+◌, ◌<◌, ◌≤◌, List, [], ◌∷◌, length, All}
use Rattle.job_report.specs.declared.job.Form.{Form}
use Rattle.job_report.specs.declared.job.ProgramJob.{ProgramJob}
use Rattle.program_reader.specs.declared.limits.TheConstants.{FILE_BYTES_MOST, UNITS_MOST}
use Rattle.program_reader.specs.declared.program.AudioPiece.{AudioPiece}
use Rattle.program_reader.specs.declared.program.Program.{Program}
use Rattle.program_reader.specs.declared.program_fault.ProgramFault.TheVariants.{Refused}
use Rattle.program_reader.specs.declared.program_fault.SourceKind.{SourceKind}
use Rattle.program_reader.specs.declared.program_fault.SourceKind.TheVariants.{ProgramLimit}
use Rattle.program_reader.specs.Programs.{IsProgramOfFile, IsProgramRefused}
use Rattle.job_programs.specs.Share.{KeepsShare}
use Rattle.job_programs.specs.Programs.{bytes_of_files, units_of_programs, last_time}

-- a packet of audio is due, and gone, no later than this
abbrev pub IsPieceBy : (last : ℕ) → AudioPiece → Type 0
IsPieceBy last piece = (piece.packet.due ≤ last) × (piece.packet.gone ≤ last)

-- no unit of a program is due, and no audio packet due or gone, past the last time
pub record KeepsTime (slot : ℕ) (program : Program) : Type 0 where
  pub units : All (λ unit. unit.due ≤ last_time slot) program.units
  pub audios : All (λ audio. All (IsPieceBy (last_time slot)) audio.pieces) program.audios

-- ---- one program behind others

-- Behind files of so many bytes, whose programs have so many units: a file holds this program of a number, the limits that they
-- share are kept, and what it takes of its table.
pub record IsProgramBehind (slot start bytes units : ℕ) (form : Form) (number : ℕ) (drop : List ℕ) (keeps : Program → Type 0) (content : List ℕ) (program : Program) : Type 0 where
  pub few_bytes : bytes + length content ≤ FILE_BYTES_MOST
  pub holds : IsProgramOfFile form content number drop start program
  pub few_units : units + length program.units ≤ UNITS_MOST
  pub within : KeepsTime slot program
  pub near : keeps program

-- What refuses the next program, in this order: the bytes of the files together; what refuses the file by itself; the units of the
-- programs together, a time past the last, and what it takes of its table.
pub data IsRefusedBehind (slot start bytes units : ℕ) (form : Form) (number : ℕ) (drop : List ℕ) (keeps : Program → Type 0) (content : List ℕ) (kind : SourceKind) (at : ℕ) : Type 0 where
  many_bytes : FILE_BYTES_MOST < bytes + length content → kind ≡ ProgramLimit → at ≡ 0
      → IsRefusedBehind slot start bytes units form number drop keeps content kind at
  file : bytes + length content ≤ FILE_BYTES_MOST → IsProgramRefused form content number drop (Refused kind at)
      → IsRefusedBehind slot start bytes units form number drop keeps content kind at
  many_units : (program : Program) → bytes + length content ≤ FILE_BYTES_MOST → IsProgramOfFile form content number drop start program
      → UNITS_MOST < units + length program.units → kind ≡ ProgramLimit → at ≡ 0
      → IsRefusedBehind slot start bytes units form number drop keeps content kind at
  late : (program : Program) → bytes + length content ≤ FILE_BYTES_MOST → IsProgramOfFile form content number drop start program
      → ¬ KeepsTime slot program → kind ≡ ProgramLimit → at ≡ 0
      → IsRefusedBehind slot start bytes units form number drop keeps content kind at
  far : (program : Program) → bytes + length content ≤ FILE_BYTES_MOST → IsProgramOfFile form content number drop start program
      → ¬ keeps program → kind ≡ ProgramLimit → at ≡ 0
      → IsRefusedBehind slot start bytes units form number drop keeps content kind at

-- ---- all programs

-- a program takes no more of a table than its share, as a job weighs it
abbrev pub job_keeps : ProgramJob → Program → Type 0
job_keeps job program = KeepsShare job.weight job.drift job.coarser.items program

-- a file holds the program that a job wants of it, and that keeps its share
pub record HoldsKept (start : ℕ) (job : ProgramJob) (content : List ℕ) (program : Program) : Type 0 where
  pub holds : IsProgramOfFile job.form content job.program job.drop.items start program
  pub near : job_keeps job program

-- so does each file
abbrev pub HoldPrograms : (start : ℕ) → List ProgramJob → (contents : List (List ℕ)) → List Program → Type 0
HoldPrograms start [] [] [] = Unit {0}
HoldPrograms start (job ∷ jobs) (content ∷ contents) (program ∷ programs) =
    HoldsKept start job content program × HoldPrograms start jobs contents programs
HoldPrograms start jobs contents programs = ⊥

-- Files with these contents, one for each of these programs of a job, hold these programs, and the limits that they share are kept.
pub record AreProgramsOf (slot start : ℕ) (jobs : List ProgramJob) (contents : List (List ℕ)) (programs : List Program) : Type 0 where
  pub hold : HoldPrograms start jobs contents programs
  pub few_bytes : bytes_of_files contents ≤ FILE_BYTES_MOST
  pub few_units : units_of_programs programs ≤ UNITS_MOST
  pub within : All (KeepsTime slot) programs
