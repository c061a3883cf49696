use Rattle.std.proofs.Common.{length}
use Rattle.version_table.proofs.Readers.{ReadTo}
use Rattle.version_table.proofs.read.read_lines.Given as goal

abbrev pub invariant-loop-rest : goal.invariant-loop-rest
invariant-loop-rest l = ReadTo l.text l.reader l.rest

abbrev pub decreases-loop-rest : goal.decreases-loop-rest
decreases-loop-rest l = length l.rest
