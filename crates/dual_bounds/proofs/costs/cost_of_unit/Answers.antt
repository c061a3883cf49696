use Rattle.std.proofs.Common.{rules}
use Rattle.dual_bounds.specs.Values.{least_cost}
use Rattle.dual_bounds.proofs.costs.cost_of_unit.Goals as goal

pub returns : goal.returns
unfolding least_cost
returns c = search rules
