use Rattle.std.proofs.Common.{arith}
use Rattle.stream_audit.proofs.RemovalLaws.{found-rise}
use Rattle.stream_audit.proofs.removals.unit_removals.Goals as goal

pub returns-clause-rise : goal.returns-clause-rise
returns-clause-rise c =
    found-rise c.args.zero c.args.kept.now.base c.args.kept.now.units c.as_slice-unit-items.result.now c.loop-unit.removals c.loop-unit.unit-index c.as_slice-unit-items.ensures
    (omega (arith, c.loop-unit-test.false)) c.loop-unit.invariant.same c.requires.rise
