use Rattle.tstd_model.proofs.WatchGoes.{watched-next}
use Rattle.tstd_model.proofs.packet_watch.PacketWatch.take.Goals as goal

pub returns : goal.returns
returns c = λ slot kind removals given has. watched-next slot kind removals given c.args.packet.now c.args.self.now c.pass.new.self c.pass.ensures has
