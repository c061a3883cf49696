use Rattle.std.proofs.Common.{arith}
use Rattle.std.proofs.lemmas.Int.{ints}
use Rattle.dual_bounds.specs.Values.{value_of_windows}
use Rattle.certificate_checker.proofs.costs.value_of_windows.Goals as goal

pub returns : goal.returns
unfolding value_of_windows
returns c = omega (arith, ints)
