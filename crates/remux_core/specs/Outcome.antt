-- What a run does: words to a command, files to an answer, and the answer to a report and a status.
use Rattle.std.specs.Prelude.{◌≡◌, ℕ, ◌⊎◌, List, Option, Some, None}
use Rattle.shelf_io.specs.Counts.{Rose}
use Rattle.shelf_io.specs.Files.{Files}
use Rattle.shelf_io.specs.Sink.{with_bytes, AddsPrefix}
use Rattle.command_words.specs.declared.status.Status.{Status}
use Rattle.command_words.specs.declared.status.Status.TheVariants.{WriteFault, OutOfMemory}
use Rattle.command_words.specs.Answer.{Answer, Decides, AnswerHasCause}
use Rattle.command_words.specs.Command.{Command, IsSaid}
use Rattle.shelf_io.specs.Facts.{ShelfFacts, SinkFacts}
use Rattle.command_words.specs.Outside.{OnFiles}
use Rattle.remux_core.specs.Promises.{Promises}
use Rattle.remux_core.specs.Tasks.{task_of}

-- an answer was reported whole, and the run ends with its status
pub record IsWholeFile (answer : Answer) (old new : SinkFacts) (status : Status) : Type 0 where
  pub same_status : status ≡ answer.status
  pub whole_line : new.written ≡ with_bytes old.written answer.line

-- the sink failed, or wanted memory, within the line of an answer; no call followed the one that failed
abbrev pub BreaksOff : Answer → (old new : SinkFacts) → Status → Type 0
BreaksOff answer old new WriteFault = Rose old.faults new.faults × (new.since_fault ≡ 0) × AddsPrefix old.written new.written answer.line
BreaksOff answer old new OutOfMemory = AddsPrefix old.written new.written answer.line
BreaksOff answer old new status = ⊥

-- how an answer became a status: by its report; without one memory was wanted, and the sink wasn't called
abbrev pub IsReported : Option Answer → (old new : SinkFacts) → Status → Type 0
IsReported (Some answer) old new status = IsWholeFile answer old new status ⊎ BreaksOff answer old new status
IsReported None old new status = (status ≡ OutOfMemory) × (new ≡ old)

-- What a run does.
pub record Outcome (words : List (List ℕ)) (old new : ShelfFacts) (out_old out_new : SinkFacts) (status : Status) : Type 0 where
  pub command : Option Command
  pub said : IsSaid words command
  pub answer : Option Answer
  -- the answer is that of the command's task and the files, where they are told
  pub decided : OnFiles old.files new.files (λ files after. Decides (task_of command) files answer after)
  -- and has its cause
  pub cause : AnswerHasCause (task_of command) old new answer
  pub reported : IsReported answer out_old out_new status
  pub promises : Promises (task_of command) old new out_old out_new

-- words and files call for this status, whatever the outside does
pub record WordsCallFor (words : List (List ℕ)) (files : Files) (status : Status) : Type 0 where
  pub command : Option Command
  pub said : IsSaid words command
  pub called : (task_of command).calls_for (Some files) status
