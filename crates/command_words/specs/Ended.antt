-- How a command ends before its answer is reported.
use Rattle.std.specs.Prelude.{◌≡◌, ℕ, ◌<◌, List, Option, Some, None}
use Rattle.job_report.specs.Report.{report_line}
use Rattle.job_report.specs.declared.report.Report.{Report}
use Rattle.shelf_io.specs.Counts.{ShelfCounts}
use Rattle.shelf_io.specs.Files.{Files}
use Rattle.command_words.specs.declared.ended.Ended.{Ended}
use Rattle.command_words.specs.declared.status.Status.{Status}
use Rattle.command_words.specs.declared.status.Status.TheVariants.{ReadFault, WriteFault, Missing}
use Rattle.command_words.specs.Answer.{Answer, Decides, AnswerHasCause}
use Rattle.shelf_io.specs.Facts.{ShelfFacts, shelf_facts}
use Rattle.command_words.specs.Outside.{CountsGrow, OnFiles}
use Rattle.command_words.specs.Task.{AsksOnly, Task}

-- the answer of a command that ended
abbrev pub answer_of : Option Ended → Option Answer
answer_of (Some ended) = Some (record { status = ended.status; line = ended.line.items })
answer_of None = None

-- a command ends with this status and the line of this report
abbrev pub EndsBy : Status → Report → Ended → Type 0
EndsBy status report ended = (ended.status ≡ status) × (ended.line.items ≡ report_line report)

-- an answer has this status, or memory was wanted for it
abbrev pub Tells : Status → Option Answer → Type 0
Tells status (Some answer) = answer.status ≡ status
Tells status None = Unit {0}

-- where a count of the shelf rose, the answer tells which, and no call of the shelf followed the one that raised it
pub record EndsAtFault (old new : ShelfFacts) (answer : Option Answer) : Type 0 where
  pub reads : old.counts.faults < new.counts.faults → Tells ReadFault answer × (new.since_fault ≡ 0)
  pub writes : old.counts.write_faults < new.counts.write_faults → Tells WriteFault answer × (new.since_fault ≡ 0)
  pub absences : old.counts.absences < new.counts.absences → Tells Missing answer × (new.since_fault ≡ 0)

-- What a task does, from a shelf before to a shelf after and an answer: where the shelf tells its files, the answer is that of the files; it has its
-- cause, a fault of the shelf ends it, no count falls, and only what the task reads is asked for.
pub record Performs (task : Task) (old new : ShelfFacts) (answer : Option Answer) : Type 0 where
  pub decided : OnFiles old.files new.files (λ files after. Decides task files answer after)
  pub cause : AnswerHasCause task old new answer
  pub ends : EndsAtFault old new answer
  pub counts : CountsGrow old.counts new.counts
  pub asks : AsksOnly task old.files old.asked new.asked

-- a task was performed over a shelf of any type
abbrev pub PerformsOn : {K : Type 0} (files : K → Option Files) (counts : K → ShelfCounts) (asked : K → List ℕ → ℕ) (since_fault : K → ℕ) (old new : K)
    → Task → Option Ended → Type 0
PerformsOn files counts asked since_fault old new task result =
    Performs task (shelf_facts files counts asked since_fault old) (shelf_facts files counts asked since_fault new) (answer_of result)
