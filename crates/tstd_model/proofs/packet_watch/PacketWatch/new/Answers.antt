use Rattle.std.proofs.Common.{[]}
use Rattle.tstd_model.proofs.WatchGoes.{watched-whole}
use Rattle.tstd_model.proofs.packet_watch.PacketWatch.new.Goals as goal

pub returns : goal.returns
returns c = watched-whole c.args.slot c.args.kind c.args.removals.now [] c.begin.result c.begin.ensures
