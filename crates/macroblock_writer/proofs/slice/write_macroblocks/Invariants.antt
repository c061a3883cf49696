use Rattle.std.proofs.Common.{◌≡◌, ℕ, List, Ok, ◌++◌, drop}
use Rattle.std.specs.List.{flat_map, AllByRecursion}
use Rattle.bit_cursor.specs.BitWriter.{Writes}
use Rattle.picture_grammar.specs.Written.{written_macroblock}
use Rattle.macroblock_writer.specs.Private.Writing.{CanBeWritten}
use Rattle.macroblock_writer.proofs.slice.write_macroblocks.Given as goal

abbrev pub invariant-loop-macroblock : goal.invariant-loop-macroblock
invariant-loop-macroblock g l = record {
  done : List ℕ;
  put : Writes g.K.Sink.written g.K.Sink.faults g.K.Sink.keeps l.fn.to l.to (Ok (tt {0})) done;
  rest : done ++ flat_map (written_macroblock l.fn.coding) (drop l.macroblock-index l.macroblocks) ≡ flat_map (written_macroblock l.fn.coding) l.macroblocks;
  fit : AllByRecursion (CanBeWritten l.fn.coding) (drop l.macroblock-index l.macroblocks);
}
