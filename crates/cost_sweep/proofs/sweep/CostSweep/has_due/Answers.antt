use Rattle.std.proofs.Common.{leb-true, arith}
use Rattle.std.proofs.lemmas.Bool.{le-leb}
use Rattle.cost_sweep.specs.declared.step.CostStep.{CostStep}
use Rattle.cost_sweep.proofs.sweep.CostSweep.has_due.Goals as goal

pub returns-then-self : goal.returns-then-self
returns-then-self c =
    let none : CostStep = record { due = 0; from = 0; rise = 0; packets = 0; fewer = 0 } in (
      λ is. (omega (arith, c.if-self.true), λ d. (let own = c.due_at.ensures d in let le = leb-true c.due_at.result c.args.due is in omega arith)),
      λ both. le-leb c.due_at.result c.args.due (let own = c.due_at.ensures none in let le = both.1 none in omega arith),
    )
