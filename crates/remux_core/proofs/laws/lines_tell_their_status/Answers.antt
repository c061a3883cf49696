use Rattle.remux_core.specs.Tasks.{task_of}
use Rattle.remux_core.proofs.LineStatus.{tells_status}
use Rattle.remux_core.proofs.laws.lines_tell_their_status.Goals as goal

pub returns : goal.returns
returns c = λ command. tells_status (task_of command)
