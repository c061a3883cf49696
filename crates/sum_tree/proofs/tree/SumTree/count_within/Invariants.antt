use Rattle.std.proofs.Common.{ℕ, ◌-◌, ◌*◌, ◌^◌, ◌<◌, ◌≤◌}
use Rattle.sum_tree.specs.Nodes.{IsSumTree}
use Rattle.sum_tree.specs.Private.Way.{IsBeyond}
use Rattle.sum_tree.proofs.tree.SumTree.count_within.Given as goal

abbrev pub invariant-loop-level : goal.invariant-loop-level
invariant-loop-level l = record {
  from : 2 ^ l._level ≤ l.node;
  within : l.node < 2 * 2 ^ l._level;
  beyond : (number : ℕ → ℕ) → IsSumTree l.self.height number l.self.nodes.items → IsBeyond number l.most l.left (l.self.height - l._level) l._level l.node;
}
