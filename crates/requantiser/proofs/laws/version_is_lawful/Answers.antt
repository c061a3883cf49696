use Rattle.requantiser.proofs.LawfulVersions.{version-lawful}
use Rattle.requantiser.proofs.laws.version_is_lawful.Goals as goal

pub returns : goal.returns
returns c = version-lawful
