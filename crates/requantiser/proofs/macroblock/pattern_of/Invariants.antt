use Rattle.std.proofs.Common.{◌≡◌, ◌<◌, ◌+◌, ◌-◌, ◌*◌, ◌^◌, drop}
use Rattle.requantiser.specs.Macroblocks.{pattern_of}
use Rattle.requantiser.proofs.macroblock.pattern_of.Given as goal

-- the bits so far stand before those of the other blocks
abbrev pub invariant-loop-block : goal.invariant-loop-block
invariant-loop-block l = record {
  rest : l.pattern * 2 ^ (6 - l.block-index) + pattern_of (drop l.block-index l.blocks) ≡ pattern_of l.blocks;
  bits : l.pattern < 2 ^ l.block-index;
}
