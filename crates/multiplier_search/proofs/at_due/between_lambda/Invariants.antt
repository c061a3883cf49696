use Rattle.std.proofs.Common.{◌≡◌, ◌-◌, ◌≤◌, ℕ, List, Option}
use Rattle.version_table.specs.declared.table.Table.{Table}
use Rattle.dual_bounds.specs.declared.constants.TheConstants.{LAMBDA_MOST}
use Rattle.dual_bounds.specs.declared.windows.Window.{Window}
use Rattle.dual_bounds.specs.Room.{room}
use Rattle.multiplier_search.specs.Private.Lambda.{EndsRise, RisesTo, value_beside}
use Rattle.multiplier_search.specs.Private.UnitSteps.{AreAtWindow, AreFree}
use Rattle.multiplier_search.proofs.at_due.between_lambda.Given as goal

-- values rise up to the lower end, and no more from the upper end on
abbrev pub invariant-loop-low : goal.invariant-loop-low
invariant-loop-low l = record {
  order : l.low ≤ l.high;
  most : l.high ≤ LAMBDA_MOST;
  rises : (table : Table) (fixed : List (Option ℕ)) (windows : List Window) (from due : ℕ) → AreAtWindow table fixed windows from due l.last l.before → AreFree table fixed windows due l.free
      → l.capacity ≡ room table from due → RisesTo (value_beside table fixed windows from due) l.low;
  ends : (table : Table) (fixed : List (Option ℕ)) (windows : List Window) (from due : ℕ) → AreAtWindow table fixed windows from due l.last l.before → AreFree table fixed windows due l.free
      → l.capacity ≡ room table from due → EndsRise (value_beside table fixed windows from due) l.high;
}

abbrev pub decreases-loop-low : goal.decreases-loop-low
decreases-loop-low l = l.high - l.low
