use Rattle.std.proofs.Common.{get_or, refl, arith}
use Rattle.branch_plan.proofs.WholeCounts.{nodes_more}
use Rattle.branch_plan.proofs.whole.whole_nodes.Goals as goal

pub loop-count-preserved : goal.loop-count-preserved
loop-count-preserved c =
    let counts = c.args.counts.now in
    let i = c.loop-count.count-index in
    nodes_more counts i (get_or counts i 0) c.loop-count.nodes c.saturating_add-nodes.result 0 c.loop-count-test.true refl c.loop-count.invariant
    (omega (arith, c.saturating_mul.ensures, c.saturating_add-nodes.ensures))
