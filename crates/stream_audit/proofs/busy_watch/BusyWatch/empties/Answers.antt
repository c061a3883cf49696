use Rattle.std.proofs.Common.{sym, ◌∙◌}
use Rattle.stream_audit.proofs.BusyWatching.{emptied-all}
use Rattle.stream_audit.proofs.busy_watch.BusyWatch.empties.Goals as goal

pub returns : goal.returns
returns c = λ yes slot subticks given has rise.
    let watch = c.args.self.now in
    emptied-all slot subticks given watch (sym c.is_some.ensures ∙ yes) watch.subticks_fit watch.short has rise
