use Rattle.std.proofs.Common.{◌≡◌, ◌+◌, drop}
use Rattle.dual_bounds.specs.Values.{least_costs}
use Rattle.dual_bounds.proofs.costs.costs_of_units.Given as goal

-- what is summed so far and what is still to come make the whole
abbrev pub invariant-loop-i : goal.invariant-loop-i
invariant-loop-i l = l.total + least_costs l.windows (drop l.i l.units) (drop l.i l.fixed) ≡ least_costs l.windows l.units l.fixed
