use Rattle.std.proofs.Common.{◌≡◌, ◌≤◌, ◌+◌, ◌-◌, ◌*◌, ◌^◌, pos, get_or}
use Rattle.requantiser.specs.Distortion.{squared_difference}
use Rattle.requantiser.specs.Private.Sums.{sum_from}
use Rattle.requantiser.proofs.difference.squared_differences.Given as goal

-- the sum so far, and that of the other indices, are the sum of all
abbrev pub invariant-loop-index : goal.invariant-loop-index
invariant-loop-index l = record {
  rest : l.sum + sum_from (λ index. squared_difference (get_or l.a index (pos 0)) (get_or l.b index (pos 0))) l.index (64 - l.index)
      ≡ sum_from (λ index. squared_difference (get_or l.a index (pos 0)) (get_or l.b index (pos 0))) 0 64;
  bound : l.sum ≤ l.index * 2 ^ 32;
}
