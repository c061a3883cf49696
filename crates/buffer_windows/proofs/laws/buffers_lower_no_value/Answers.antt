use Rattle.buffer_windows.proofs.PlainCosts.{values_le}
use Rattle.buffer_windows.proofs.laws.buffers_lower_no_value.Goals as goal

pub returns : goal.returns
returns c = values_le
