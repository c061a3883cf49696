use Rattle.std.proofs.Common.{Option, ℕ, sym, subst}
use Rattle.std.specs.BinaryHeap.{heap_items}
use Rattle.branch_plan.specs.Private.Branching.{IsWith}
use Rattle.branch_plan.proofs.Opens.{with_one}
use Rattle.branch_plan.proofs.branching.add_if_open.Goals as goal

pub returns-in_ok-add_leaf-in-Some-clause-more : goal.returns-in_ok-add_leaf-in-Some-clause-more
returns-in_ok-add_leaf-in-Some-clause-more c =
    subst (λ (b : Option ℕ). IsWith b c.args.number (heap_items c.args.leaves.now) (heap_items c.add_leaf.new.leaves)) (sym c.in-Some.is)
    (with_one c.in-Some.bound c.args.number (heap_items c.args.leaves.now) (heap_items c.add_leaf.new.leaves) c.in_ok-add_leaf-in-Some.ensures.more)
