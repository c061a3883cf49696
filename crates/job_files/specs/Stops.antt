-- Why there is no table of a job, and which files are read for one.
use Rattle.std.specs.Prelude.{◌≡◌, ◌⊎◌, ℕ, ◌+◌, ◌≤◌, max, List, map, Contains, Option}
use Rattle.shelf_io.specs.Counts.{Rose, ShelfCounts}
use Rattle.shelf_io.specs.Files.{Files, Lacks}
use Rattle.job_report.specs.declared.limits.TheConstants.{JOB_TEXT_MOST}
use Rattle.job_report.specs.declared.job.Job.{Job}
use Rattle.job_report.specs.declared.job.ProgramJob.{ProgramJob}
use Rattle.job_programs.specs.declared.source_fault.SourceFault.{SourceFault}
use Rattle.job_programs.specs.Told.{IsRefusedOn, StopsAtProgram}
use Rattle.program_reader.specs.declared.limits.TheConstants.{FILE_BYTES_MOST}
use Rattle.job_files.specs.declared.job_stop.JobStop.{JobStop}
use Rattle.job_files.specs.declared.job_stop.JobStop.TheVariants.{Text, Source, Unread, Missing, OutOfMemory}
use Rattle.job_files.specs.JobFile.{HoldsJob, HoldsRefused}

-- a program of the job in a file is refused, and none before it
pub record HoldsRefusedProgram (told : Option Files) (name : List ℕ) (named : List (List ℕ)) (fault : SourceFault) : Type 0 where
  pub job : Job
  pub holds : HoldsJob told name named job
  pub refused : IsRefusedOn told job fault

-- the next file that is read for the job in a file is that of this name: behind programs that are read
pub record IsNextProgramFile (told : Option Files) (name : List ℕ) (named : List (List ℕ)) (file : List ℕ) : Type 0 where
  pub job : Job
  pub holds : HoldsJob told name named job
  pub number : ℕ
  pub program : ProgramJob
  pub stops : StopsAtProgram told job number program
  pub file_is : file ≡ program.file

-- the next file that is read for the job in a file: its own, or that of a program
abbrev pub IsNextFile : Option Files → (name : List ℕ) → (named : List (List ℕ)) → (file : List ℕ) → Type 0
IsNextFile told name named file = (file ≡ name) ⊎ IsNextProgramFile told name named file

-- Why there is no table of the job in a file: its text is refused, or a program; a file can't be read, where the count of faults
-- rose, or isn't there, where that of absences did, and no call followed; or memory was wanted.
abbrev pub StopsFor : Option Files → (name : List ℕ) → (named : List (List ℕ)) → (old new : ShelfCounts) → (since_fault : ℕ) → JobStop → Type 0
StopsFor told name named old new since_fault (Text refusal) = HoldsRefused told name named refusal
StopsFor told name named old new since_fault (Source fault) = HoldsRefusedProgram told name named fault
StopsFor told name named old new since_fault (Unread file) = IsNextFile told name named file × Rose old.faults new.faults × (since_fault ≡ 0)
StopsFor told name named old new since_fault (Missing file) =
    IsNextFile told name named file × Lacks told file × Rose old.absences new.absences × (since_fault ≡ 0)
StopsFor told name named old new since_fault OutOfMemory = Unit {0}

-- Why there is no job of a file: its text is refused; it can't be read, where the count of faults rose, or isn't there, where that of absences
-- did, and no call followed; or memory was wanted.
abbrev pub StopsFile : Option Files → (name : List ℕ) → (named : List (List ℕ)) → (old new : ShelfCounts) → (since_fault : ℕ) → JobStop → Type 0
StopsFile told name named old new since_fault (Text refusal) = HoldsRefused told name named refusal
StopsFile told name named old new since_fault (Source fault) = ⊥
StopsFile told name named old new since_fault (Unread file) = (file ≡ name) × Rose old.faults new.faults × (since_fault ≡ 0)
StopsFile told name named old new since_fault (Missing file) = (file ≡ name) × Lacks told file × Rose old.absences new.absences × (since_fault ≡ 0)
StopsFile told name named old new since_fault OutOfMemory = Unit {0}

-- a file of a program of the job was next to be read
pub record IsNextOf (told : Option Files) (job : Job) (file : List ℕ) : Type 0 where
  pub number : ℕ
  pub program : ProgramJob
  pub stops : StopsAtProgram told job number program
  pub file_is : file ≡ program.file

-- why the programs of a job have no table
abbrev pub StopsJob : Option Files → Job → (old new : ShelfCounts) → (since_fault : ℕ) → JobStop → Type 0
StopsJob told job old new since_fault (Text refusal) = ⊥
StopsJob told job old new since_fault (Source fault) = IsRefusedOn told job fault
StopsJob told job old new since_fault (Unread file) = IsNextOf told job file × Rose old.faults new.faults × (since_fault ≡ 0)
StopsJob told job old new since_fault (Missing file) = IsNextOf told job file × Lacks told file × Rose old.absences new.absences × (since_fault ≡ 0)
StopsJob told job old new since_fault OutOfMemory = Unit {0}

-- there is no table of a job since a file can't be read, or memory was wanted to say so
abbrev pub EndsUnread : JobStop → Type 0
EndsUnread (Unread file) = Unit {0}
EndsUnread OutOfMemory = Unit {0}
EndsUnread stop = ⊥

-- there is no table of a job since a file isn't there, or memory was wanted to say so
abbrev pub EndsMissing : JobStop → Type 0
EndsMissing (Missing file) = Unit {0}
EndsMissing OutOfMemory = Unit {0}
EndsMissing stop = ⊥

-- a file that is read for the job in a file, up to one byte past this limit: its own, and those of its programs
abbrev pub IsJobFile : Option Files → (name : List ℕ) → (named : List (List ℕ)) → (file : List ℕ) → (limit : ℕ) → Type 0
IsJobFile told name named file limit =
    ((file ≡ name) × (limit ≡ JOB_TEXT_MOST))
    ⊎ ((job : Job) × HoldsJob told name named job × Contains (map (λ program. program.file) job.programs) file × (limit ≡ FILE_BYTES_MOST))

-- only files that are read for the job in a file were asked for bytes, each for none behind one byte past its limit
pub record AsksForJob (told : Option Files) (name : List ℕ) (named : List (List ℕ)) (old new : List ℕ → ℕ) : Type 0 where
  pub within : (file : List ℕ) (limit : ℕ) → IsJobFile told name named file limit → new file ≤ max (old file) (limit + 1)
  pub others : (file : List ℕ) → ((limit : ℕ) → IsJobFile told name named file limit → ⊥) → new file ≤ old file
