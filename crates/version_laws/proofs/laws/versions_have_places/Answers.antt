use Rattle.version_laws.proofs.Bounded.{versions-placed}
use Rattle.version_laws.proofs.laws.versions_have_places.Goals as goal

pub returns : goal.returns
returns c = versions-placed
