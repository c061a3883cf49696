use Rattle.std.proofs.Common.{ap, length, arith}
use Rattle.std.proofs.lemmas.List.Folds.{length-flat_map-take}
use Rattle.bound_certificate.specs.declared.cert.Node.{Node}
use Rattle.bound_certificate.specs.Spelling.{bytes_of_node}
use Rattle.branch_plan.proofs.bytes.nodes_bytes.Goals as goal

pub overflow_add-bytes : goal.overflow_add-bytes
overflow_add-bytes c =
    omega (
      arith,
      c.loop-node.invariant,
      c.node_bytes-bytes.ensures.is,
      ap (λ (n : Node). length (bytes_of_node n)) c.node-item.is,
      length-flat_map-take bytes_of_node c.args.nodes.now c.loop-node.node-index c.node-item.result c.loop-node-test.true,
      c.requires,
    )
