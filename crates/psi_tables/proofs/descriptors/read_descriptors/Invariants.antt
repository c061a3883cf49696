use Rattle.std.proofs.Common.{length}
use Rattle.psi_tables.proofs.DescriptorRows.{HasRead}
use Rattle.psi_tables.proofs.descriptors.read_descriptors.Given as goal

abbrev pub invariant-loop-rest : goal.invariant-loop-rest
invariant-loop-rest l = HasRead l.bytes l.rest l.kept.items l.dropped

abbrev pub decreases-loop-rest : goal.decreases-loop-rest
decreases-loop-rest l = length l.rest
