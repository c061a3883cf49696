use Rattle.std.proofs.Common.{get_or}
use Rattle.std.specs.Prelude.{slice_index}
use Rattle.version_maker.proofs.Counts.{can-count-tallied}
use Rattle.version_maker.proofs.slice_read.count_next.Goals as goal

pub count_macroblock-requires-clause-each : goal.count_macroblock-requires-clause-each
count_macroblock-requires-clause-each c = λ k d e below.
    can-count-tallied c.args.picture.seq.now c.args.picture.coding.now (slice_index c.args.ratios.now k) c.args.code c.args.lent.now.from
    (get_or c.tally_macroblock-behind.new.tallies k e) (get_or c.args.counts.now k d) (c.requires.each k d below) (c.tally_macroblock-behind.ensures.tallies k e below)
