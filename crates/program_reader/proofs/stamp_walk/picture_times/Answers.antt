use Rattle.program_reader.proofs.StampLemmas.{look_past}
use Rattle.program_reader.proofs.stamp_walk.picture_times.Goals as goal

pub returns-else-first-at-clause-times : goal.returns-else-first-at-clause-times
returns-else-first-at-clause-times c =
    (look_past c.args.at c.args.stamps.now c.stamps_from-left.result.now c.in-Some.behind.now c.in-Some.first.now c.in-Some.ensures.cases.0 c.if-first-at.false c.stamps_from-left.ensures).times_are
