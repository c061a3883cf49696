use Rattle.requantiser.proofs.Steps.{one-more-step}
use Rattle.requantiser.proofs.laws.one_more_step.Goals as goal

pub returns : goal.returns
returns c = one-more-step
