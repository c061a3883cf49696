use Rattle.std.proofs.Common.{◌<◌, ℕ}
use Rattle.requantiser.specs.Private.Counts.{tally_in}
use Rattle.requantiser.specs.Private.Tallies.{AreBlocksTallied}
use Rattle.requantiser.proofs.macroblock_tally.add_blocks.Given as goal

-- in each version the blocks so far are counted
abbrev pub invariant-loop-i : goal.invariant-loop-i
invariant-loop-i l = record {
  each : (k : ℕ) (below : k < 8) → AreBlocksTallied l.picture.seq.now l.picture.coding.now l.from.kind l.code l.from.blocks l.i (tally_in l.targets l.initial.counts k below) (tally_in l.targets l.counts k below);
}
