use Rattle.std.proofs.Common.{rules, arith}
use Rattle.branch_plan.proofs.WholeCounts.{count_added, counts_all}
use Rattle.branch_plan.proofs.whole.version_counts.Goals as goal

pub loop-place-preserved : goal.loop-place-preserved
loop-place-preserved c =
    count_added c.args.table.now c.loop-place.place c.unit_at.result.now c.loop-place.counts.items c.add_if_many.new.counts.items (omega (arith, c.loop-place-test.true, c.requires))
    c.unit_at.ensures c.loop-place.invariant (search rules)

pub returns : goal.returns
returns c =
    counts_all c.args.table.now c.loop-place.place c.loop-place.counts.items (omega (arith, c.loop-place-test.false, c.loop-place.auto.place-end, c.requires)) c.loop-place.invariant
