-- The programs of a job, read from the contents of their files one after the other, and the first refusal among them (this project's).
use Rattle.std.specs.Prelude.{◌≡◌, ℕ, ◌+◌, ◌-◌, ◌*◌, ◌<◌, ◌≤◌, min, List, [], ◌∷◌, ◌++◌, length, All}
use Rattle.std.specs.List.{sum_by}
use Rattle.job_report.specs.declared.job.Job.{Job}
use Rattle.job_report.specs.declared.job.ProgramJob.{ProgramJob}
use Rattle.program_reader.specs.declared.limits.TheConstants.{FILE_BYTES_MOST, TIME_SLOTS_MOST, UNITS_MOST}
use Rattle.program_reader.specs.declared.program.Program.{Program}
use Rattle.program_reader.specs.declared.program_fault.ProgramFault.TheVariants.{Refused}
use Rattle.program_reader.specs.declared.program_fault.SourceKind.{SourceKind}
use Rattle.program_reader.specs.declared.program_fault.SourceKind.TheVariants.{ProgramLimit}
use Rattle.program_reader.specs.Programs.{IsProgramOfFile, IsProgramRefused}
use Rattle.job_programs.specs.declared.limits.TheConstants.{TIMES_LIMIT}
use Rattle.job_programs.specs.Share.{KeepsShare}
use Rattle.job_programs.specs.declared.source_fault.SourceFault.{SourceFault}

-- ---- limits that the programs of a job share

-- the bytes of some files together
abbrev pub bytes_of_files : List (List ℕ) → ℕ
bytes_of_files contents = sum_by length contents

-- the units of some programs together
abbrev pub units_of_programs : List Program → ℕ
units_of_programs programs = sum_by (λ program. length program.units) programs

-- the last time, in ticks, that a stream of such slots reaches: that of the last slot, and less than a round of the clock
abbrev pub last_time : (slot : ℕ) → ℕ
last_time slot = min (TIME_SLOTS_MOST * slot) (TIMES_LIMIT - 1)

-- no unit of a program is due, and no audio packet due or gone, past the last time
pub record IsWithinTime (slot : ℕ) (program : Program) : Type 0 where
  pub units : All (λ unit. unit.due ≤ last_time slot) program.units
  pub audio_dues : All (λ audio. All (λ piece. piece.packet.due ≤ last_time slot) audio.pieces) program.audios
  pub audio_gones : All (λ audio. All (λ piece. piece.packet.gone ≤ last_time slot) audio.pieces) program.audios

-- ---- one program behind others

-- the content of a file holds this program of a job, by itself
abbrev pub HoldsProgram : (start : ℕ) → ProgramJob → (content : List ℕ) → Program → Type 0
HoldsProgram start job content program = IsProgramOfFile job.form content job.program job.drop.items start program

-- The content of a file holds this program of a job, with the files and programs before it the limits that they share are kept, and it takes
-- no more of a table than its share.
pub record IsNextProgram (slot start : ℕ) (contents : List (List ℕ)) (programs : List Program) (job : ProgramJob) (content : List ℕ) (program : Program) : Type 0 where
  pub few_bytes : bytes_of_files contents + length content ≤ FILE_BYTES_MOST
  pub holds : HoldsProgram start job content program
  pub few_units : units_of_programs programs + length program.units ≤ UNITS_MOST
  pub within : IsWithinTime slot program
  pub share : KeepsShare job.weight job.drift job.coarser.items program

-- What refuses the next program of a job behind these files and programs, in this order: the bytes of the files together; what
-- refuses the file by itself; the units of the programs together, a time past the last, and more than its share of a table.
pub data IsNextRefused (slot start : ℕ) (contents : List (List ℕ)) (programs : List Program) (job : ProgramJob) (content : List ℕ) (kind : SourceKind) (at : ℕ) : Type 0 where
  many_bytes : FILE_BYTES_MOST < bytes_of_files contents + length content → kind ≡ ProgramLimit → at ≡ 0
      → IsNextRefused slot start contents programs job content kind at
  file : bytes_of_files contents + length content ≤ FILE_BYTES_MOST → IsProgramRefused job.form content job.program job.drop.items (Refused kind at)
      → IsNextRefused slot start contents programs job content kind at
  many_units : (program : Program) → bytes_of_files contents + length content ≤ FILE_BYTES_MOST → HoldsProgram start job content program
      → UNITS_MOST < units_of_programs programs + length program.units → kind ≡ ProgramLimit → at ≡ 0
      → IsNextRefused slot start contents programs job content kind at
  late : (program : Program) → bytes_of_files contents + length content ≤ FILE_BYTES_MOST → HoldsProgram start job content program
      → ¬ IsWithinTime slot program → kind ≡ ProgramLimit → at ≡ 0
      → IsNextRefused slot start contents programs job content kind at
  large : (program : Program) → bytes_of_files contents + length content ≤ FILE_BYTES_MOST → HoldsProgram start job content program
      → ¬ KeepsShare job.weight job.drift job.coarser.items program → kind ≡ ProgramLimit → at ≡ 0
      → IsNextRefused slot start contents programs job content kind at

-- ---- all programs

-- behind these files and programs, the files of the further ones hold these
abbrev pub AreNextPrograms : (slot start : ℕ) → (contents : List (List ℕ)) → (programs : List Program) → List ProgramJob → (further : List (List ℕ)) → List Program → Type 0
AreNextPrograms slot start contents programs [] [] [] = Unit {0}
AreNextPrograms slot start contents programs (job ∷ jobs) (content ∷ further) (program ∷ more) =
    IsNextProgram slot start contents programs job content program
    × AreNextPrograms slot start (contents ++ content ∷ []) (programs ++ program ∷ []) jobs further more
AreNextPrograms slot start contents programs jobs further more = ⊥

-- The files with these contents, one for each program of the job, hold these programs.
abbrev pub ArePrograms : Job → (contents : List (List ℕ)) → List Program → Type 0
ArePrograms job contents programs = AreNextPrograms job.slot job.start [] [] job.programs contents programs

-- The first program of a job that is refused: the files before it hold programs. `contents` are those of the files up to its own,
-- and of any behind it.
pub record IsFirstRefused (job : Job) (contents : List (List ℕ)) (fault : SourceFault) : Type 0 where
  pub before : List ProgramJob
  pub refused : ProgramJob
  pub after : List ProgramJob
  pub split : job.programs ≡ before ++ refused ∷ after
  pub read : List (List ℕ)
  pub content : List ℕ
  pub further : List (List ℕ)
  pub contents_are : contents ≡ read ++ content ∷ further
  pub programs : List Program
  pub programs_are : AreNextPrograms job.slot job.start [] [] before read programs
  pub number : fault.program ≡ length before
  pub refusal : IsNextRefused job.slot job.start read programs refused content fault.kind fault.at
