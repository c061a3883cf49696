use Rattle.dual_bounds.proofs.ValueLaws.{bound_iff}
use Rattle.dual_bounds.proofs.laws.bound_is_the_least.Goals as goal

pub returns : goal.returns
returns c = bound_iff
