use Rattle.std.proofs.Common.{◌≤◌, [], take}
use Rattle.branch_plan.specs.Private.Whole.{behind}
use Rattle.branch_plan.specs.Tree.{nodes_of_whole_tree}
use Rattle.branch_plan.proofs.whole.whole_nodes.Given as goal

abbrev pub invariant-loop-count : goal.invariant-loop-count
invariant-loop-count l = l.nodes ≤ nodes_of_whole_tree (behind (take l.count-index l.counts) [])
