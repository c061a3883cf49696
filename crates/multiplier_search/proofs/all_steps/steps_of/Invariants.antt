use Rattle.std.proofs.Common.{List, []}
use Rattle.std.specs.List.{AllZip}
use Rattle.version_table.specs.Table.{units_of}
use Rattle.version_table.proofs.Chosen.{units_from}
use Rattle.dual_bounds.specs.Fixed.{NamesVersion}
use Rattle.cost_sweep.specs.declared.step.CostStep.{CostStep}
use Rattle.multiplier_search.specs.Private.UnitSteps.{AddSteps}
use Rattle.multiplier_search.proofs.all_steps.steps_of.Given as goal

-- the entries left are for the units left, and with their steps those so far are the steps of all
abbrev pub invariant-loop-program : goal.invariant-loop-program
invariant-loop-program l = let units = units_from l.program-items l.program-index in record {
  names : AllZip NamesVersion units l.rest;
  steps : (after : List CostStep) → AddSteps l.windows units l.rest l.steps.items after → AddSteps l.windows (units_of l.table) l.fixed [] after;
}
