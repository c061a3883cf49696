use Rattle.std.proofs.Common.{◌≡◌, ◌+◌, ◌-◌, ◌*◌, ◌≤◌, ℕ, List, length, slice_index_or}
use Rattle.std.specs.List.{flat_map, range_with_len}
use Rattle.syntax_types.specs.declared.block.Block.{Block}
use Rattle.syntax_types.specs.declared.macroblock.Macroblock.{Macroblock}
use Rattle.syntax_types.specs.declared.picture.PicCoding.{PicCoding}
use Rattle.picture_grammar.specs.Macroblock.{block_way, no_block}
use Rattle.macroblock_writer.specs.Parts.{written_dc_block}
use Rattle.macroblock_writer.proofs.bit_counts.dc_blocks_bits.Given as goal

-- the DC coefficient of a block, with the end of the block
abbrev pub dc_of : PicCoding → Macroblock → ℕ → List ℕ
dc_of coding m i = let block : Block = slice_index_or m.blocks i no_block in written_dc_block (block_way coding m.kind i) block.dc

abbrev pub invariant-loop-i : goal.invariant-loop-i
invariant-loop-i l = record {
  rest : l.bits + length (flat_map (dc_of l.fn.coding l.fn.macroblock) (range_with_len l.i (6 - l.i)))
      ≡ length (flat_map (dc_of l.fn.coding l.fn.macroblock) (range_with_len 0 6));
  few : l.bits ≤ 4000 * l.i;
}
