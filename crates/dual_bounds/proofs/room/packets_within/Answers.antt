use Rattle.std.proofs.Common.{arith}
use Rattle.dual_bounds.proofs.AudioDue.{audio_within-is}
use Rattle.dual_bounds.proofs.room.packets_within.Goals as goal

pub returns : goal.returns
returns c =
    let count = audio_within-is c.args.from c.args.due c.args.packets.now c.packets_before.result c.packets_by.result c.packets_before.ensures c.packets_by.ensures in
    omega (arith, count)
