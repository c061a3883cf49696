use Rattle.buffer_windows.proofs.VersionsFit.{versions_fit}
use Rattle.buffer_windows.proofs.laws.versions_fit_their_buffers.Goals as goal

pub returns : goal.returns
returns c = versions_fit
