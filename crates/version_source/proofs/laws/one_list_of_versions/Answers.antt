use Rattle.version_source.specs.Private.OneVersions.{one-all}
use Rattle.version_source.proofs.laws.one_list_of_versions.Goals as goal

pub returns : goal.returns
returns c = one-all
