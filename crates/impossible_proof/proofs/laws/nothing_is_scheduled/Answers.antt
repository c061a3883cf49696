use Rattle.impossible_proof.proofs.Impossible.{nothing_fits}
use Rattle.impossible_proof.proofs.laws.nothing_is_scheduled.Goals as goal

pub returns : goal.returns
returns c = nothing_fits
