use Rattle.std.proofs.Common.{◌≡◌, ℕ, List, replicate, subst, sym}
use Rattle.sum_tree.specs.Nodes.{IsSumTree}
use Rattle.sum_tree.proofs.Zeros.{zeros-tree}
use Rattle.sum_tree.proofs.tree.SumTree.new.Goals as goal

pub returns-clause-tree : goal.returns-clause-tree
returns-clause-tree c =
    let is : c.in_ok-nodes.nodes.items ≡ replicate {A = ℕ} c.power_of_two.result 0 = c.in_ok-nodes.ensures.items_if_clones_equal (λ y e. e) in
    subst (λ (x : List ℕ). IsSumTree c.args.height (λ place. 0) x) (sym is) (zeros-tree c.args.height c.power_of_two.result c.power_of_two.ensures)
