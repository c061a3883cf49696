use Rattle.dual_bounds.proofs.ValueLaws.{branch_bounds}
use Rattle.dual_bounds.proofs.laws.branches_bound.Goals as goal

pub returns : goal.returns
returns c = branch_bounds
