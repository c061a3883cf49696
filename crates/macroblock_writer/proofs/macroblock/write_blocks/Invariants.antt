use Rattle.std.proofs.Common.{◌≡◌, ◌-◌, ℕ, List, Ok, ◌++◌}
use Rattle.std.specs.List.{flat_map, range_with_len}
use Rattle.bit_cursor.specs.BitWriter.{Writes}
use Rattle.picture_grammar.specs.Written.{written_coded_block}
use Rattle.macroblock_writer.proofs.macroblock.write_blocks.Given as goal

abbrev pub invariant-loop-i : goal.invariant-loop-i
invariant-loop-i g l = record {
  done : List ℕ;
  put : Writes g.K.Sink.written g.K.Sink.faults g.K.Sink.keeps l.fn.to l.to (Ok (tt {0})) done;
  rest : done ++ flat_map (written_coded_block l.fn.coding l.fn.macroblock) (range_with_len l.i (6 - l.i)) ≡ flat_map (written_coded_block l.fn.coding l.fn.macroblock) (range_with_len 0 6);
}
