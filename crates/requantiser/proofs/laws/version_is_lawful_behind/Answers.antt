use Rattle.requantiser.proofs.LawfulVersions.{version-behind}
use Rattle.requantiser.proofs.laws.version_is_lawful_behind.Goals as goal

pub returns : goal.returns
returns c = version-behind
