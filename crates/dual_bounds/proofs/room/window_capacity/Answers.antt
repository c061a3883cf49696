use Rattle.std.proofs.Common.{arith}
use Rattle.std.proofs.lemmas.Int.{ints}
use Rattle.dual_bounds.specs.Room.{room}
use Rattle.dual_bounds.proofs.room.window_capacity.Goals as goal

pub returns : goal.returns
unfolding room
returns c = omega (arith, ints)
