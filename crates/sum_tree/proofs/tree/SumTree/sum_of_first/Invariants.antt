use Rattle.std.proofs.Common.{ℕ, ◌-◌, ◌<◌, ◌*◌, ◌^◌}
use Rattle.sum_tree.specs.Nodes.{IsSumTree}
use Rattle.sum_tree.specs.Private.Way.{IsSumming}
use Rattle.sum_tree.proofs.tree.SumTree.sum_of_first.Given as goal

abbrev pub invariant-loop-level : goal.invariant-loop-level
invariant-loop-level l = record {
  within : l.node < 2 * 2 ^ (l.self.height - l._level);
  summing : (number : ℕ → ℕ) → IsSumTree l.self.height number l.self.nodes.items
      → IsSumming number l.count l.total (l.self.height - l._level) l.self.nodes.items l.node;
}
