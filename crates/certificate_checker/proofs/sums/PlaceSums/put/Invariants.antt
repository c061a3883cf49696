use Rattle.std.proofs.Common.{◌≡◌, vec_capacity}
use Rattle.certificate_checker.specs.Private.PlaceSums.{IsRising}
use Rattle.certificate_checker.proofs.sums.PlaceSums.put.Given as goal

-- the sums are right up to this node
abbrev pub invariant-loop-node : goal.invariant-loop-node
invariant-loop-node l = record {
  rising : IsRising l.fn.self.count l.place l.number l.fn.self.nodes.items l.self.nodes.items l.node;
  count : l.self.count ≡ l.fn.self.count;
  room : vec_capacity l.self.nodes ≡ vec_capacity l.fn.self.nodes;
}

abbrev pub decreases-loop-node : goal.decreases-loop-node
decreases-loop-node l = l.node
