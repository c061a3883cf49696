-- What is performed of the words of a command.
use Rattle.std.specs.Prelude.{ℕ, List, Option}
use Rattle.command_words.specs.Answer.{Answer}
use Rattle.command_words.specs.Command.{Command, IsSaid}
use Rattle.command_words.specs.Ended.{Performs}
use Rattle.shelf_io.specs.Facts.{ShelfFacts}
use Rattle.remux_core.specs.Tasks.{task_of}

-- the work of a command's words was done, up to the report
pub record PerformsWords (words : List (List ℕ)) (old new : ShelfFacts) (answer : Option Answer) : Type 0 where
  pub command : Option Command
  pub said : IsSaid words command
  pub performs : Performs (task_of command) old new answer
