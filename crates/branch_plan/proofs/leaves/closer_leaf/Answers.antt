use Rattle.branch_plan.proofs.Priced.{seen_leaf_is}
use Rattle.branch_plan.proofs.Valued.{seen_leaf_valued}
use Rattle.branch_plan.proofs.leaves.closer_leaf.Goals as goal

pub returns-then-is_enough-clause-leaf : goal.returns-then-is_enough-clause-leaf
returns-then-is_enough-clause-leaf c =
    let leaf = c.in_ok-leaf.leaf in
    seen_leaf_is c.args.table.now c.args.asked.nodes c.args.fixed.now c.args.buffers.now c.args.seen.bound leaf c.args.known c.requires.free.0 c.requires.known c.requires.buffers c.requires.bound
    c.requires.free.1 c.in_ok-leaf.ensures.node c.in_ok-leaf.ensures.known c.in_ok-leaf.ensures.bound

pub returns-in_ok-leaf-2-clause-leaf : goal.returns-in_ok-leaf-2-clause-leaf
returns-in_ok-leaf-2-clause-leaf c =
    let leaf = c.in_ok-leaf-2.leaf in
    seen_leaf_is c.args.table.now c.args.asked.nodes c.args.fixed.now c.args.buffers.now c.args.seen.bound leaf c.args.known c.requires.free.0 c.requires.known c.requires.buffers c.requires.bound
    c.requires.free.1 c.in_ok-leaf-2.ensures.node c.in_ok-leaf-2.ensures.known c.in_ok-leaf-2.ensures.bound

pub returns-then-is_enough-clause-valued : goal.returns-then-is_enough-clause-valued
returns-then-is_enough-clause-valued c =
    let leaf = c.in_ok-leaf.leaf in
    seen_leaf_valued c.args.table.now c.args.buffers.now c.args.fixed.now leaf.node leaf.values c.args.seen.kept c.in_ok-leaf.ensures.node c.in_ok-leaf.ensures.time c.in_ok-leaf.ensures.seen c.requires.seen

pub returns-in_ok-leaf-2-clause-valued : goal.returns-in_ok-leaf-2-clause-valued
returns-in_ok-leaf-2-clause-valued c =
    let leaf = c.in_ok-leaf-2.leaf in
    seen_leaf_valued c.args.table.now c.args.buffers.now c.args.fixed.now leaf.node leaf.values c.args.seen.kept c.in_ok-leaf-2.ensures.node c.in_ok-leaf-2.ensures.time c.in_ok-leaf-2.ensures.seen c.requires.seen
