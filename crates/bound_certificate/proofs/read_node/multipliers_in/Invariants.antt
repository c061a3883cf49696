use Rattle.bound_certificate.specs.Cert.{IsStatedMultiplier}
use Rattle.bound_certificate.specs.Spelling.{bytes_of_multiplier}
use Rattle.bound_certificate.proofs.NodeParts.{HasTaken}
use Rattle.bound_certificate.proofs.read_node.multipliers_in.Given as goal

abbrev pub invariant-loop-i : goal.invariant-loop-i
invariant-loop-i l = HasTaken bytes_of_multiplier IsStatedMultiplier 16 l.block l.multipliers l.i
