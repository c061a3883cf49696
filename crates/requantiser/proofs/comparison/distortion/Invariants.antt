use Rattle.std.proofs.Common.{◌≡◌, ◌≤◌, ◌+◌, ◌-◌, ◌*◌, ◌^◌}
use Rattle.requantiser.specs.Private.Cursor.{StandsAt}
use Rattle.requantiser.specs.Private.Sums.{sum_from}
use Rattle.requantiser.proofs.Differences.{difference_at}
use Rattle.requantiser.proofs.comparison.distortion.Given as goal

-- both walks stand at the address; the sum so far, and that of the other addresses, are the sum of all
abbrev pub invariant-loop-address : goal.invariant-loop-address
invariant-loop-address l = record {
  first : StandsAt l.from l.address l.first.code l.first.start l.first.macroblocks.now l.first.slices.now;
  second : StandsAt l.to l.address l.second.code l.second.start l.second.macroblocks.now l.second.slices.now;
  rest : l.sum + sum_from (difference_at l.from l.to) l.address (l.end - l.address) ≡ sum_from (difference_at l.from l.to) 0 l.end;
  bound : l.sum ≤ l.address * 2 ^ 41;
}
