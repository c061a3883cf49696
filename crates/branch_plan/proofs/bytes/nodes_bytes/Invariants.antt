use Rattle.std.proofs.Common.{◌≡◌, take}
use Rattle.branch_plan.specs.Private.Branching.{tree_bytes}
use Rattle.branch_plan.proofs.bytes.nodes_bytes.Given as goal

abbrev pub invariant-loop-node : goal.invariant-loop-node
invariant-loop-node l = l.bytes ≡ tree_bytes (take l.node-index l.nodes)
