use Rattle.std.proofs.Common.{arith}
use Rattle.std.proofs.lemmas.Int.{ints}
use Rattle.buffer_windows.specs.Values.{value_of_buffer_windows as value_of_windows}
use Rattle.buffer_windows.proofs.values.value_of_windows.Goals as goal

pub returns : goal.returns
unfolding value_of_windows
returns c = omega (arith, ints)
