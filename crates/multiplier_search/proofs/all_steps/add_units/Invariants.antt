use Rattle.std.proofs.Common.{List, drop}
use Rattle.cost_sweep.specs.declared.step.CostStep.{CostStep}
use Rattle.multiplier_search.specs.Private.UnitSteps.{AddSteps}
use Rattle.multiplier_search.proofs.all_steps.add_units.Given as goal

-- with the steps of the units that are left, those so far are the steps of all
abbrev pub invariant-loop-i : goal.invariant-loop-i
invariant-loop-i l = (after : List CostStep) → AddSteps l.windows (drop l.i l.units) (drop l.i l.fixed) l.steps.items after → AddSteps l.windows l.units l.fixed l.fn.steps.items after
