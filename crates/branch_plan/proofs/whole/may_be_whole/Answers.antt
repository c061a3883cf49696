use Rattle.std.proofs.Common.{◌≤◌, ℕ, List, [], subst, arith}
use Rattle.std.specs.List.Sorted.{IsPermutation}
use Rattle.std.proofs.lemmas.Bool.{leb-false}
use Rattle.branch_plan.specs.Private.Whole.{behind}
use Rattle.branch_plan.specs.Tree.{nodes_of_whole_tree}
use Rattle.branch_plan.proofs.WholeCounts.{never_enough}
use Rattle.branch_plan.proofs.whole.may_be_whole.Goals as goal

pub returns : goal.returns
returns c = λ past enough.
    let counts = c.sort.new.self.items in
    let by = subst (λ (xs : List ℕ). IsPermutation xs counts) c.in_ok-counts.ensures c.sort.ensures.permutation in
    let nodes = subst (λ (xs : List ℕ). c.whole_nodes.result ≤ nodes_of_whole_tree (behind xs [])) c.as_slice.ensures.value c.whole_nodes.ensures in
    never_enough c.args.table.now counts c.whole_nodes.result c.args.nodes by c.in_ok-sort.ensures.sorted nodes (omega (arith, leb-false c.whole_nodes.result c.from.result past, c.from.ensures)) enough
