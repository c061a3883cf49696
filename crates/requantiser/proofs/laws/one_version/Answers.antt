use Rattle.requantiser.proofs.Versions.{one-version}
use Rattle.requantiser.proofs.laws.one_version.Goals as goal

pub returns : goal.returns
returns c = one-version
