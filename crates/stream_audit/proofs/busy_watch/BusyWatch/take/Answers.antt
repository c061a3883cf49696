use Rattle.std.proofs.Common.{refl, arith}
use Rattle.stream_audit.proofs.BusyWatching.{emptied-more}
use Rattle.stream_audit.proofs.busy_watch.BusyWatch.take.Goals as goal

pub returns : goal.returns
returns c = λ slot subticks given has.
    emptied-more slot subticks given c.args.packet.now c.args.self.now _ has refl refl c.in-Some.time c.first_instant.result (omega (arith, c.if-self.false)) c.in-Some.is
    c.first_instant.ensures.value c.behind-self.ensures.busy
