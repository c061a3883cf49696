use Rattle.requantiser.proofs.Steps.{steps-make}
use Rattle.requantiser.proofs.laws.steps_make_the_slice.Goals as goal

pub returns : goal.returns
returns c = steps-make
