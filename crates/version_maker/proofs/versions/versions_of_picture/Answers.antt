use Rattle.std.proofs.Common.{arith}
use Rattle.version_maker.proofs.Lists.{all-versions}
use Rattle.version_maker.proofs.versions.versions_of_picture.Goals as goal

pub returns : goal.returns
returns c = all-versions c.args.picture.now c.args.unit.now c.args.coarser.now c.loop-m.m-index c.loop-m.versions (omega (arith, c.loop-m-test.false)) c.loop-m.invariant.so_far
