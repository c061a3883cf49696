use Rattle.std.proofs.Common.{◌≡◌, ◌-◌, ◌≤◌, ℕ, List, Option}
use Rattle.version_table.specs.declared.table.Table.{Table}
use Rattle.dual_bounds.specs.declared.constants.TheConstants.{LAMBDA_MOST}
use Rattle.dual_bounds.specs.declared.windows.Window.{Window}
use Rattle.dual_bounds.specs.Room.{room}
use Rattle.cost_sweep.specs.Sweep.{HasReached}
use Rattle.multiplier_search.specs.Private.Lambda.{EndsRise, RisesTo, value_beside}
use Rattle.multiplier_search.specs.Private.UnitSteps.{AreStepsOf}
use Rattle.multiplier_search.proofs.at_due.swept_lambda.Given as goal

-- values rise up to the lower end, and no more from the upper end on
abbrev pub invariant-loop-low : goal.invariant-loop-low
invariant-loop-low l = record {
  order : l.low ≤ l.high;
  most : l.high ≤ LAMBDA_MOST;
  rises : (table : Table) (fixed : List (Option ℕ)) (windows : List Window) (due : ℕ) → AreStepsOf table fixed windows l.sweep.steps.now → HasReached due l.sweep → l.capacity ≡ room table 0 due
      → RisesTo (value_beside table fixed windows 0 due) l.low;
  ends : (table : Table) (fixed : List (Option ℕ)) (windows : List Window) (due : ℕ) → AreStepsOf table fixed windows l.sweep.steps.now → HasReached due l.sweep → l.capacity ≡ room table 0 due
      → EndsRise (value_beside table fixed windows 0 due) l.high;
}

abbrev pub decreases-loop-low : goal.decreases-loop-low
decreases-loop-low l = l.high - l.low
