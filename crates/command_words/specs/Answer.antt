-- What a command answers: by its task and files, and by what failed outside.
use Rattle.std.specs.Prelude.{◌≡◌, ℕ, List, Option, Some, None}
use Rattle.shelf_io.specs.Counts.{Rose}
use Rattle.shelf_io.specs.Files.{Files, Lacks}
use Rattle.job_report.specs.Report.{report_line}
use Rattle.job_report.specs.declared.report.Report.TheVariants as reports
use Rattle.job_report.specs.declared.report.SlotVerdict.{SlotVerdict}
use Rattle.run_report.specs.Report.{finding_report, source_report}
use Rattle.command_words.specs.declared.status.Status.{Status}
use Rattle.command_words.specs.declared.status.Status.TheVariants.{Ok, Usage, JobRefused, SourceRefused, Unschedulable, ReadFault, WriteFault, CertRefused, Missing, OutOfMemory, AuditFault, NoFit}
use Rattle.shelf_io.specs.Facts.{ShelfFacts}
use Rattle.command_words.specs.Report.{cert_report, refusal_report, miss_report}
use Rattle.command_words.specs.Task.{Task}

-- a status, and the line that reports it
pub record Answer : Type 0 where
  pub status : Status
  pub line : List ℕ

-- What a command with this status and line does to the files. A refusal comes only where it is called for, and leaves them.
abbrev pub EndsWithStatus : Task → Files → Status → (line : List ℕ) → (after : Files) → Type 0
EndsWithStatus task files Ok line after = task.is_done files line after
EndsWithStatus task files ReadFault line after = after ≡ files
EndsWithStatus task files WriteFault line after = task.leaves files after
EndsWithStatus task files OutOfMemory line after = ⊥
EndsWithStatus task files status line after = task.calls_for (Some files) status × (after ≡ files)

-- what a command does to the files by its answer, or, where memory is wanted before there is one, without
abbrev pub Decides : Task → Files → Option Answer → (after : Files) → Type 0
Decides task files (Some answer) after = EndsWithStatus task files answer.status answer.line after
Decides task files None after = task.leaves files after

-- a call of the shelf failed at a file of this kind, none followed it, its cause stands, and the line names the file
pub record FailsAt (IsAsked : List ℕ → Type 0) (Rises : Type 0) (line_of : List ℕ → List ℕ) (line : List ℕ) (new : ShelfFacts) : Type 0 where
  pub name : List ℕ
  pub asked : IsAsked name
  pub rises : Rises
  pub last : new.since_fault ≡ 0
  pub names : line ≡ line_of name

-- a command reads this file
abbrev pub IsReadFile : Task → Option Files → (name : List ℕ) → Type 0
IsReadFile task told name = (limit : ℕ) × task.reads told name limit

-- a command refuses what it reads: it may, with this line, and the files call for it
pub record Refuses (task : Task) (told : Option Files) (status : Status) (reported line : List ℕ) : Type 0 where
  pub may : task.may_refuse status
  pub says : line ≡ reported
  pub called : task.calls_for told status

-- the line prints what is said of each slot, of which none fits
abbrev pub TellsNoFit : Task → Option Files → (line : List ℕ) → Type 0
TellsNoFit task told line = (slots : List SlotVerdict) × task.fits_none told slots × (line ≡ report_line (reports.NoFit slots))

-- Why a command ends with this status and line, whether the shelf tells its files or not: work that was done is that of the files, a refusal is
-- called for, a fault of the outside comes only where a count of its own rose, and a name is missing only where told files lack it.
abbrev pub HasCause : Task → (old new : ShelfFacts) → Status → (line : List ℕ) → Type 0
HasCause task old new Ok line = task.tells_work old.files line
HasCause task old new Usage line = (line ≡ report_line reports.Usage) × task.calls_for old.files Usage
HasCause task old new (JobRefused refusal) line = Refuses task old.files (JobRefused refusal) (report_line (refusal_report refusal)) line
HasCause task old new (SourceRefused fault) line = Refuses task old.files (SourceRefused fault) (report_line (source_report fault)) line
HasCause task old new (Unschedulable miss) line = Refuses task old.files (Unschedulable miss) (report_line (miss_report miss)) line
HasCause task old new (CertRefused refusal) line = Refuses task old.files (CertRefused refusal) (report_line (cert_report refusal)) line
HasCause task old new ReadFault line =
    FailsAt (IsReadFile task old.files) (Rose old.counts.faults new.counts.faults) (λ name. report_line (reports.ReadFault name)) line new
HasCause task old new WriteFault line =
    FailsAt task.writes (Rose old.counts.write_faults new.counts.write_faults) (λ name. report_line (reports.WriteFault name)) line new
HasCause task old new Missing line =
    FailsAt (λ name. IsReadFile task old.files name × Lacks old.files name) (Rose old.counts.absences new.counts.absences)
    (λ name. report_line (reports.Missing name)) line new
HasCause task old new OutOfMemory line = ⊥
HasCause task old new (AuditFault finding) line = Refuses task old.files (AuditFault finding) (report_line (finding_report finding)) line
HasCause task old new NoFit line = TellsNoFit task old.files line

-- an answer has its cause; to end without one for want of memory needs none
abbrev pub AnswerHasCause : Task → (old new : ShelfFacts) → Option Answer → Type 0
AnswerHasCause task old new (Some answer) = HasCause task old new answer.status answer.line
AnswerHasCause task old new None = Unit {0}
