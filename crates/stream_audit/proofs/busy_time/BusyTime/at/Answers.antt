use Rattle.std.proofs.Common.{arith}
use Rattle.stream_audit.proofs.PacketLaws.{begins-anew}
use Rattle.stream_audit.proofs.busy_time.BusyTime.at.Goals as goal

pub returns-clause-same : goal.returns-clause-same
returns-clause-same c rest =
    begins-anew c.args.self.subticks c.args.self.from c.args.self.until c.args.first rest c.requires.1 (omega (arith, c.if-first-self.false))
