use Rattle.std.proofs.Common.{drop}
use Rattle.std.specs.List.{AllByRecursion}
use Rattle.bound_certificate.specs.Cert.{HasRoom}
use Rattle.plan_command.proofs.cert_room.look_at_nodes.Given as goal

abbrev pub invariant-loop-node : goal.invariant-loop-node
invariant-loop-node l = AllByRecursion HasRoom (drop l.node-index l.nodes) → AllByRecursion HasRoom l.nodes
