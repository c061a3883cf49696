use Rattle.macroblock_reader.specs.SliceCursor.{columns_behind}
use Rattle.macroblock_reader.specs.Private.Parts.{MacroblocksRead}
use Rattle.macroblock_reader.proofs.slice.read_macroblocks.Given as goal

abbrev pub invariant-macroblocks : goal.invariant-macroblocks
invariant-macroblocks g l = MacroblocksRead l.picture.seq.now l.picture.coding.now l.macroblocks l.cursor l.fn.from l.from

abbrev pub decreases-macroblocks : goal.decreases-macroblocks
decreases-macroblocks g l = columns_behind l.cursor
