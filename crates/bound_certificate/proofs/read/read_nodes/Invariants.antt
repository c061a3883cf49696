use Rattle.bound_certificate.proofs.TreeParts.{HasRead}
use Rattle.bound_certificate.proofs.read.read_nodes.Given as goal

abbrev pub invariant-loop-read : goal.invariant-loop-read
invariant-loop-read l = HasRead l.version l.initial.cursor l.cursor l.nodes l._read
