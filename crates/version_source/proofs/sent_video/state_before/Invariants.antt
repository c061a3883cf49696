use Rattle.std.proofs.Common.{None}
use Rattle.version_source.specs.Private.Sending.{LeaveBehind}
use Rattle.version_source.proofs.sent_video.state_before.Given as goal

abbrev pub invariant-loop-k : goal.invariant-loop-k
invariant-loop-k l = LeaveBehind l.es None l.units l.k l.state
