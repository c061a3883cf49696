use Rattle.std.proofs.Common.{◌++◌, ap}
use Rattle.tstd_model.specs.Private.Cursors.{bytes_at, bytes_of_all}
use Rattle.tstd_model.proofs.packet_bytes.PacketBytes.new.Goals as goal

pub returns : goal.returns
unfolding bytes_at
returns c = ap (λ parts. bytes_at c.args.step 0 parts ++ bytes_of_all c.args.step c.args.packets.now) c.none.ensures
