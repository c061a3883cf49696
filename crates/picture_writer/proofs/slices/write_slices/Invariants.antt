use Rattle.std.proofs.Common.{◌≡◌, ℕ, List, Ok, ◌++◌, drop}
use Rattle.std.specs.List.{flat_map, AllByRecursion}
use Rattle.bit_cursor.specs.BitWriter.{odd_bits, Writes}
use Rattle.macroblock_writer.specs.Private.WholeSlices.{written_whole_slice}
use Rattle.picture_writer.specs.Private.Slices.{CanBeWritten}
use Rattle.picture_writer.proofs.slices.write_slices.Given as goal

abbrev pub invariant-loop-slice : goal.invariant-loop-slice
invariant-loop-slice g l = record {
  done : List ℕ;
  put : Writes g.K.Sink.written g.K.Sink.faults g.K.Sink.keeps l.fn.to l.to (Ok (tt {0})) done;
  rest : done ++ flat_map (written_whole_slice l.fn.picture.coding.now) (drop l.slice-index l.slices) ≡ flat_map (written_whole_slice l.fn.picture.coding.now) l.slices;
  whole : odd_bits l.to ≡ 0;
  spelled : AllByRecursion (CanBeWritten l.fn.picture.seq.now l.fn.picture.coding.now) (drop l.slice-index l.slices);
}
