use Rattle.std.proofs.Common.{◌≡◌, ◌<◌, ℕ, length, get_or}
use Rattle.picture_grammar.specs.Macroblock.{no_block}
use Rattle.requantiser.proofs.Macroblocks.{one_block}
use Rattle.requantiser.proofs.macroblock.coarsen_blocks.Given as goal

-- the blocks so far are made
abbrev pub invariant-loop-i : goal.invariant-loop-i
invariant-loop-i l = record {
  six : length l.to ≡ 6;
  each : (k : ℕ) → k < l.i → get_or l.to k no_block ≡ one_block l.fn.picture.seq.now l.fn.picture.coding.now l.fn.from.kind l.fn.codes.in_force l.fn.codes.mapped l.fn.from.blocks k;
}
