use Rattle.requantiser.proofs.LawfulVersions.{some-version}
use Rattle.requantiser.proofs.laws.some_version.Goals as goal

pub returns : goal.returns
returns c = some-version
