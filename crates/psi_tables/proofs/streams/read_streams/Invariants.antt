use Rattle.std.proofs.Common.{length}
use Rattle.psi_tables.proofs.StreamRows.{HasReadStreams}
use Rattle.psi_tables.proofs.streams.read_streams.Given as goal

abbrev pub invariant-loop-rest : goal.invariant-loop-rest
invariant-loop-rest l = HasReadStreams l.bytes l.rest l.streams.items l.dropped

abbrev pub decreases-loop-rest : goal.decreases-loop-rest
decreases-loop-rest l = length l.rest
