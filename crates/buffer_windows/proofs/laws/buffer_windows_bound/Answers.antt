use Rattle.buffer_windows.proofs.Duality.{windows_bound}
use Rattle.buffer_windows.proofs.laws.buffer_windows_bound.Goals as goal

pub returns : goal.returns
returns c = windows_bound
