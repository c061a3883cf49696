use Rattle.bound_certificate.specs.Cert.{IsStatedWindow}
use Rattle.bound_certificate.specs.Spelling.{bytes_of_window}
use Rattle.bound_certificate.proofs.NodeParts.{HasTaken}
use Rattle.bound_certificate.proofs.read_node.windows_in.Given as goal

abbrev pub invariant-loop-i : goal.invariant-loop-i
invariant-loop-i l = HasTaken bytes_of_window IsStatedWindow 24 l.block l.windows l.i
