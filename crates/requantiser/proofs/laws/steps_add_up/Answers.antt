use Rattle.requantiser.proofs.StepSums.{steps-add-up}
use Rattle.requantiser.proofs.laws.steps_add_up.Goals as goal

pub returns : goal.returns
returns c = steps-add-up
