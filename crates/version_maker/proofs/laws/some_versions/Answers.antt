use Rattle.version_maker.proofs.Lists.{some-list}
use Rattle.version_maker.proofs.laws.some_versions.Goals as goal

pub returns : goal.returns
returns c = some-list
