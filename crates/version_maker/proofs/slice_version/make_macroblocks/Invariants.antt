use Rattle.macroblock_reader.specs.SliceCursor.{columns_behind}
use Rattle.version_maker.specs.Private.Making.{AreMadeSoFar}
use Rattle.version_maker.proofs.slice_version.make_macroblocks.Given as goal

abbrev pub invariant-macroblocks : goal.invariant-macroblocks
invariant-macroblocks g l = AreMadeSoFar g.K.Sink.written l.picture.seq.now l.picture.coding.now l.fn.start l.state l.is_first l.span l.cursor l.fn.from l.from l.fn.to l.to

abbrev pub decreases-macroblocks : goal.decreases-macroblocks
decreases-macroblocks g l = columns_behind l.cursor
