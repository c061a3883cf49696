use Rattle.picture_writer.proofs.Delay.{three_set}
use Rattle.picture_writer.proofs.vbv_delay.set_bits.Goals as goal

pub returns : goal.returns
returns c = three_set c.args.unit.now c.args.at c.requires
