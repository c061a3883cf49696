use Rattle.std.proofs.Common.{◌≡◌, take}
use Rattle.requantiser.proofs.macroblock.copy_vectors.Given as goal

-- the vectors so far
abbrev pub invariant-loop-vector : goal.invariant-loop-vector
invariant-loop-vector l = l.to.items ≡ take l.vector-index l.vector-items
