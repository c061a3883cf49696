use Rattle.version_source.proofs.AllVersions.{packet-size}
use Rattle.version_source.proofs.laws.packet_has_size_of_version.Goals as goal

pub returns : goal.returns
returns c = packet-size
