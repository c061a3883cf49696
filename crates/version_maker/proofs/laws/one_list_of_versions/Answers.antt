use Rattle.version_maker.proofs.Lists.{one-list}
use Rattle.version_maker.proofs.laws.one_list_of_versions.Goals as goal

pub returns : goal.returns
returns c = one-list
