use Rattle.std.proofs.Common.{◌≡◌, ◌++◌, take}
use Rattle.std.specs.List.{flat_map}
use Rattle.bound_certificate.specs.Spelling.{bytes_of_node}
use Rattle.bound_certificate.proofs.write.push_nodes.Given as goal

abbrev pub invariant-loop-node : goal.invariant-loop-node
invariant-loop-node l = l.out.items ≡ l.initial.out.items ++ flat_map bytes_of_node (take l.node-index l.nodes)
