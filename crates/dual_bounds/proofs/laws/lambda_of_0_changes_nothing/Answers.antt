use Rattle.dual_bounds.proofs.ValueLaws.{no_lambda}
use Rattle.dual_bounds.proofs.laws.lambda_of_0_changes_nothing.Goals as goal

pub returns : goal.returns
returns c = no_lambda
