use Rattle.buffer_windows.proofs.WindowLaw.{windows_hold}
use Rattle.buffer_windows.proofs.laws.windows_with_buffers_hold.Goals as goal

pub returns : goal.returns
returns c = windows_hold
