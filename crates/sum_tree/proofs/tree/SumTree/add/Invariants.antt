use Rattle.std.proofs.Common.{◌≡◌, ℕ, ◌-◌, ◌*◌, ◌^◌, ◌<◌, length}
use Rattle.sum_tree.specs.Nodes.{IsSumTree}
use Rattle.sum_tree.specs.Private.Way.{IsGrowing}
use Rattle.sum_tree.proofs.tree.SumTree.add.Given as goal

abbrev pub invariant-loop-level : goal.invariant-loop-level
invariant-loop-level l = record {
  size : length l.nodes ≡ length l.fn.self.nodes.items;
  within : l.node < 2 * 2 ^ (l.fn.self.height - l._level);
  growing : (number : ℕ → ℕ) → IsSumTree l.fn.self.height number l.fn.self.nodes.items
      → IsGrowing l.fn.self.height number l.place l.amount (l.fn.self.height - l._level) l.nodes l.node;
}
