use Rattle.std.proofs.Common.{refl, rules}
use Rattle.std.specs.BinaryHeap.{heap_items}
use Rattle.branch_plan.proofs.Stepping.{rooted_growth}
use Rattle.branch_plan.proofs.branching.rooted.Goals as goal

pub returns-clause-grown : goal.returns-clause-grown
returns-clause-grown c =
    rooted_growth c.args.table.now c.args.nodes c.args.known.distortion c.in_ok-leaf.leaf c.in_ok-fixed.fixed (heap_items c.no_leaves-leaves.result) _
    c.in_ok-fixed.ensures.value c.in_ok-fixed.ensures.valid c.in_ok-leaf.ensures.leaf c.in_ok-leaf.ensures.floor c.no_leaves-leaves.ensures.none c.in_ok-add_if_open.ensures.more
    c.requires.found c.root_bound-time.ensures.bound c.greater_bound-root.ensures c.requires.some_nodes c.in_ok-add_if_open.ensures.order (search rules) (search rules) (search rules) c.in_ok-leaf.ensures.valued refl
    c.node_bytes-bytes.ensures.is c.node_bytes-bytes.ensures.most c.requires.valid
