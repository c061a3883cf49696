use Rattle.macroblock_reader.specs.SliceCursor.{columns_behind}
use Rattle.picture_reader.specs.Private.Reading.{MacroblocksRead}
use Rattle.picture_reader.proofs.slice.walk_macroblocks.Given as goal

abbrev pub invariant-macroblocks : goal.invariant-macroblocks
invariant-macroblocks g l = MacroblocksRead l.picture.seq.now l.picture.coding.now l.keep l.kept l.span l.cursor l.fn.from l.from

abbrev pub decreases-macroblocks : goal.decreases-macroblocks
decreases-macroblocks g l = columns_behind l.cursor
