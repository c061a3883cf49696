use Rattle.std.proofs.Common.{length}
use Rattle.fit_command.proofs.Lists.{ReadTo}
use Rattle.fit_command.proofs.list.read_lines.Given as goal

abbrev pub invariant-loop-rest : goal.invariant-loop-rest
invariant-loop-rest l = ReadTo l.text l.slots l.rest

abbrev pub decreases-loop-rest : goal.decreases-loop-rest
decreases-loop-rest l = length l.rest
