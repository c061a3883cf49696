use Rattle.std.proofs.Common.{◌≡◌, ◌≤◌, ◌+◌, ◌-◌, ◌*◌, ◌^◌, Some}
use Rattle.requantiser.specs.Distortion.{coefficient_of_macroblock}
use Rattle.requantiser.specs.Private.Sums.{sum_from}
use Rattle.requantiser.proofs.Sums.{block_difference}
use Rattle.requantiser.proofs.difference.difference_of_two.Given as goal

-- the sum so far, and that of the other blocks, are the sum of all
abbrev pub invariant-loop-i : goal.invariant-loop-i
invariant-loop-i l = record {
  rest : l.sum + sum_from (block_difference (coefficient_of_macroblock l.a.picture.seq.now l.a.picture.coding.now l.a.code (Some l.a.macroblock.now))
      (coefficient_of_macroblock l.b.picture.seq.now l.b.picture.coding.now l.b.code (Some l.b.macroblock.now))) l.i (6 - l.i)
      ≡ sum_from (block_difference (coefficient_of_macroblock l.a.picture.seq.now l.a.picture.coding.now l.a.code (Some l.a.macroblock.now))
      (coefficient_of_macroblock l.b.picture.seq.now l.b.picture.coding.now l.b.code (Some l.b.macroblock.now))) 0 6;
  bound : l.sum ≤ l.i * 2 ^ 38;
}
