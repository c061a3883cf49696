use Rattle.std.proofs.Common.{◌≡◌, ◌+◌, ◌-◌, ◌*◌, ◌≤◌, length}
use Rattle.std.specs.List.{flat_map, range_with_len}
use Rattle.picture_grammar.specs.Written.{written_coded_block}
use Rattle.macroblock_writer.proofs.bit_counts.blocks_bits.Given as goal

abbrev pub invariant-loop-i : goal.invariant-loop-i
invariant-loop-i l = record {
  rest : l.bits + length (flat_map (written_coded_block l.fn.coding l.fn.macroblock) (range_with_len l.i (6 - l.i)))
      ≡ length (flat_map (written_coded_block l.fn.coding l.fn.macroblock) (range_with_len 0 6));
  few : l.bits ≤ 4000 * l.i;
}
