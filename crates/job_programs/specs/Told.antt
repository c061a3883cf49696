-- The files of a job's programs on a shelf, where it tells them.
use Rattle.std.specs.Prelude.{◌≡◌, ◌⊎◌, ℕ, ◌+◌, ◌<◌, ◌≤◌, max, List, [], ◌∷◌, ◌++◌, length, map, Contains, Option, None, Some, IfSome}
use Rattle.std.specs.FinMap.{get}
use Rattle.shelf_io.specs.Files.{Files, IfTold, Lacks}
use Rattle.shelf_io.specs.Counts.{Rose, ShelfCounts}
use Rattle.job_report.specs.declared.job.Job.{Job}
use Rattle.job_report.specs.declared.job.ProgramJob.{ProgramJob}
use Rattle.program_reader.specs.declared.limits.TheConstants.{FILE_BYTES_MOST}
use Rattle.program_reader.specs.declared.program.Program.{Program}
use Rattle.job_programs.specs.declared.source_fault.SourceFault.{SourceFault}
use Rattle.job_programs.specs.declared.source_fault.ProgramsFault.{ProgramsFault}
use Rattle.job_programs.specs.declared.source_fault.ProgramsFault.TheVariants.{Refused, Failed, Missing, OutOfMemory}
use Rattle.job_programs.specs.Probe.{IsProbed, IsProbeRefused}
use Rattle.job_programs.specs.Programs.{AreNextPrograms, IsFirstRefused}
use Rattle.job_programs.specs.Read.{AreReadFor, AreReadPrograms, IsReadProbed}

-- ---- contents

-- a file holds this content, where files are told
abbrev pub HoldsContent : Option Files → (name content : List ℕ) → Type 0
HoldsContent told name content = IfSome told (λ files. get files name ≡ Some content)

-- the files of the first programs hold these contents, as many as there are
abbrev pub HoldContents : Files → List ProgramJob → (contents : List (List ℕ)) → Type 0
HoldContents files jobs [] = Unit {0}
HoldContents files [] (content ∷ contents) = ⊥
HoldContents files (job ∷ jobs) (content ∷ contents) = (get files job.file ≡ Some content) × HoldContents files jobs contents

-- ---- the programs of a job

-- programs of a job, by the contents of their files
pub record AreProgramsIn (files : Files) (slot start : ℕ) (jobs : List ProgramJob) (programs : List Program) : Type 0 where
  pub contents : List (List ℕ)
  pub held : HoldContents files jobs contents
  pub are : AreNextPrograms slot start [] [] jobs contents programs

-- the first refusal among the programs of a job, by the contents of their files
pub record IsRefusedIn (files : Files) (job : Job) (fault : SourceFault) : Type 0 where
  pub contents : List (List ℕ)
  pub held : HoldContents files job.programs contents
  pub first : IsFirstRefused job contents fault

-- The programs of a job were read. Where the shelf tells its files they are those of their contents; a file that isn't told may be another one each time that
-- it is read.
pub record AreProgramsOn (told : Option Files) (job : Job) (programs : List Program) : Type 0 where
  pub read : AreReadPrograms job programs
  pub held : IfSome told (λ files. AreProgramsIn files job.slot job.start job.programs programs)

-- The file of the program of this number wasn't read, or it is refused: those before it were read.
pub record StopsAtProgram (told : Option Files) (job : Job) (number : ℕ) (stopped : ProgramJob) : Type 0 where
  pub before : List ProgramJob
  pub after : List ProgramJob
  pub split : job.programs ≡ before ++ stopped ∷ after
  pub number_is : number ≡ length before
  pub programs : List Program
  pub read : AreReadFor job.slot job.start before programs
  pub held : IfSome told (λ files. AreProgramsIn files job.slot job.start before programs)

-- A program of a job is refused, and those before it were read. Where the shelf tells its files it is the first refusal among them.
pub record IsRefusedOn (told : Option Files) (job : Job) (fault : SourceFault) : Type 0 where
  pub refused : ProgramJob
  pub stops : StopsAtProgram told job fault.program refused
  pub held : IfSome told (λ files. IsRefusedIn files job fault)

-- the file of the program of this number isn't held: those before it hold programs
pub record IsMissingOn (files : Files) (job : Job) (number : ℕ) : Type 0 where
  pub stopped : ProgramJob
  pub stops : StopsAtProgram (Some files) job number stopped
  pub lacks : get files stopped.file ≡ None

-- Why the programs of a job weren't read: the first refusal; a read that failed, where the count of faults rose, or a file that
-- isn't held, where the count of absences rose, and no call followed; or want of memory.
abbrev pub HasReadCause : Option Files → Job → (old new : ShelfCounts) → (since_fault : ℕ) → ProgramsFault → Type 0
HasReadCause told job old new since_fault (Refused fault) = IsRefusedOn told job fault
HasReadCause told job old new since_fault (Failed number) =
    (stopped : ProgramJob) × StopsAtProgram told job number stopped × Rose old.faults new.faults × (since_fault ≡ 0)
HasReadCause told job old new since_fault (Missing number) =
    (stopped : ProgramJob) × StopsAtProgram told job number stopped × Lacks told stopped.file × Rose old.absences new.absences × (since_fault ≡ 0)
HasReadCause told job old new since_fault OutOfMemory = Unit {0}

-- ---- a file that is probed

-- the program of a file that is probed was read; where the shelf tells the file it is that of its content
pub record IsProbedOn (told : Option Files) (name : List ℕ) (slot start number : ℕ) (drop : List ℕ) (program : Program) : Type 0 where
  pub read : IsReadProbed slot start number drop program
  pub held : IfTold told name (λ content. IsProbed slot start number drop content program)

-- the refusal of a file that is probed, as that of the first program of a job; where the shelf tells the file it is that of its content
pub record IsProbeRefusedOn (told : Option Files) (name : List ℕ) (slot start number : ℕ) (drop : List ℕ) (fault : SourceFault) : Type 0 where
  pub first : fault.program ≡ 0
  pub held : IfTold told name (λ content. IsProbeRefused slot start number drop content fault.kind fault.at)

-- Why a file that is read for one program has none: it is refused; a read failed, where the count of faults rose, or the file isn't held, where the count of
-- absences rose, and no call followed; or want of memory.
abbrev pub HasFileCause : (IsRefused : SourceFault → Type 0) → Option Files → (name : List ℕ) → (old new : ShelfCounts) → (since_fault : ℕ) → ProgramsFault → Type 0
HasFileCause IsRefused told name old new since_fault (Refused fault) = IsRefused fault
HasFileCause IsRefused told name old new since_fault (Failed place) = (place ≡ 0) × Rose old.faults new.faults × (since_fault ≡ 0)
HasFileCause IsRefused told name old new since_fault (Missing place) =
    (place ≡ 0) × Lacks told name × Rose old.absences new.absences × (since_fault ≡ 0)
HasFileCause IsRefused told name old new since_fault OutOfMemory = Unit {0}

-- why a file that is probed has no program
abbrev pub HasProbeCause : Option Files → (name : List ℕ) → (slot start number : ℕ) → (drop : List ℕ) → (old new : ShelfCounts) → (since_fault : ℕ) → ProgramsFault → Type 0
HasProbeCause told name slot start number drop = HasFileCause (IsProbeRefusedOn told name slot start number drop) told name

-- ---- what is asked

-- no file but those of the programs was asked for bytes, and none of them for one behind the byte past the limit
abbrev pub AsksForPrograms : List ProgramJob → (old new : List ℕ → ℕ) → Type 0
AsksForPrograms jobs old new = (name : List ℕ) →
    (new name ≤ old name) ⊎ (Contains (map (λ job. job.file) jobs) name × (new name ≤ max (old name) (FILE_BYTES_MOST + 1)))

-- no count of a shelf falls, and that of failed writes stays
pub record CountReads (old new : ShelfCounts) : Type 0 where
  pub faults_grow : old.faults ≤ new.faults
  pub same_write_faults : new.write_faults ≡ old.write_faults
  pub absences_grow : old.absences ≤ new.absences

-- Where a count of reads rose in a call, this is its answer, and no call of the shelf followed the one that raised it.
pub record ReadsEnd (failed missing : Type 0) (old new : ShelfCounts) (since_fault : ℕ) : Type 0 where
  pub faults : old.faults < new.faults → failed × (since_fault ≡ 0)
  pub absences : old.absences < new.absences → missing × (since_fault ≡ 0)

-- the programs weren't read since a file can't be
abbrev pub EndsFailed : ProgramsFault → Type 0
EndsFailed (Failed number) = Unit {0}
EndsFailed fault = ⊥

-- the programs weren't read since a file isn't there
abbrev pub EndsMissing : ProgramsFault → Type 0
EndsMissing (Missing number) = Unit {0}
EndsMissing fault = ⊥
