use Rattle.std.proofs.Common.{◌≡◌, ◌^◌}
use Rattle.sum_tree.proofs.tree.power_of_two.Given as goal

abbrev pub invariant-loop-level : goal.invariant-loop-level
invariant-loop-level l = l.product ≡ 2 ^ l._level
