use Rattle.buffer_windows.proofs.PlainValues.{rooms_le}
use Rattle.buffer_windows.proofs.laws.rooms_without_buffers.Goals as goal

pub returns : goal.returns
returns c = rooms_le
