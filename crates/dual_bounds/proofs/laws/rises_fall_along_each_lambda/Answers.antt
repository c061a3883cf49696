use Rattle.dual_bounds.proofs.Concave.{rises_fall}
use Rattle.dual_bounds.proofs.laws.rises_fall_along_each_lambda.Goals as goal

pub returns : goal.returns
returns c = rises_fall
