use Rattle.std.proofs.Common.{◌≡◌, ◌+◌, length, arith}
use Rattle.file_pieces.proofs.Pushed.{all_lanes}
use Rattle.file_pieces.proofs.program_lanes.push_lanes.Goals as goal

pub returns : goal.returns
returns c =
    let end : c.loop-k.k + 1 ≡ length c.args.program.now.audios.now + 1 = omega (arith, c.loop-k-test.false, c.loop-k.auto.k-end) in
    all_lanes c.args.program.now (c.loop-k.k + 1) c.args.lanes.now.items c.loop-k.lanes.items c.loop-k.invariant end
