use Rattle.std.proofs.Common.{◌-◌, ◌≤◌}
use Rattle.dual_bounds.specs.declared.constants.TheConstants.{LAMBDA_MOST}
use Rattle.multiplier_search.specs.Private.Lambda.{EndsRise, RisesTo, value_with}
use Rattle.multiplier_search.proofs.lambda.best_lambda.Given as goal

-- values rise up to the lower end, and no more from the upper end on
abbrev pub invariant-loop-low : goal.invariant-loop-low
invariant-loop-low l = record {
  order : l.low ≤ l.high;
  most : l.high ≤ LAMBDA_MOST;
  rises : RisesTo (value_with l.table l.fixed l.windows l.place l.window.from l.window.due) l.low;
  ends : EndsRise (value_with l.table l.fixed l.windows l.place l.window.from l.window.due) l.high;
}

abbrev pub decreases-loop-low : goal.decreases-loop-low
decreases-loop-low l = l.high - l.low
