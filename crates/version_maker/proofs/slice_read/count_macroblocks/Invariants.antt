use Rattle.macroblock_reader.specs.SliceCursor.{columns_behind}
use Rattle.version_maker.specs.Private.Read.{MacroblocksRead}
use Rattle.version_maker.proofs.slice_read.count_macroblocks.Given as goal

abbrev pub invariant-macroblocks : goal.invariant-macroblocks
invariant-macroblocks g l = MacroblocksRead l.picture.seq.now l.picture.coding.now l.ratios l.fn.counts l.counts l.in_force l.span l.cursor l.fn.from l.from

abbrev pub decreases-macroblocks : goal.decreases-macroblocks
decreases-macroblocks g l = columns_behind l.cursor
