use Rattle.version_source.proofs.AllVersions.{all-versions}
use Rattle.version_source.proofs.laws.programs_have_versions.Goals as goal

pub returns : goal.returns
returns c = all-versions
