use Rattle.std.proofs.Common.{arith}
use Rattle.slot_rule.proofs.HeadLaws.{NoneGoneBefore-all, NoneGoneBefore-more}
use Rattle.slot_rule.proofs.states.first_gone.Goals as goal

pub loop-state-preserved : goal.loop-state-preserved
loop-state-preserved c =
    NoneGoneBefore-more c.args.states.now c.loop-state.state-index c.loop-state.first c.first_gone.result c.min-first.result _ c.loop-state-test.true
    (omega (arith, c.min-first.ensures)) (omega (arith, c.min-first.ensures))
    c.loop-state.invariant c.first_gone.ensures

pub returns : goal.returns
returns c = NoneGoneBefore-all c.args.states.now c.loop-state.state-index c.loop-state.first c.loop-state-test.false c.loop-state.invariant
