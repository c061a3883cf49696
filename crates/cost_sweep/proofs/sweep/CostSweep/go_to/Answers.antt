use Rattle.std.proofs.lemmas.Bool.{iff_false}
use Rattle.cost_sweep.proofs.Swept.{has-reached}
use Rattle.cost_sweep.proofs.sweep.CostSweep.go_to.Goals as goal

pub returns-clause-reached : goal.returns-clause-reached
returns-clause-reached c =
    has-reached c.args.due c.loop-self.self c.loop-self.invariant.sweep c.loop-self.invariant.by (iff_false c.has_due.ensures c.loop-self-test.false)
