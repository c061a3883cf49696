use Rattle.std.proofs.Common.{arith}
use Rattle.std.proofs.lemmas.Int.{ints}
use Rattle.buffer_windows.specs.Room.{buffer_room as room}
use Rattle.buffer_windows.proofs.rooms.room.Goals as goal

pub returns-clause-value : goal.returns-clause-value
unfolding room
returns-clause-value c = omega (arith, ints)
