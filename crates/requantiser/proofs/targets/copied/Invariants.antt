use Rattle.std.proofs.Common.{◌≡◌, ◌<◌, ℕ, length, get_or}
use Rattle.requantiser.proofs.targets.copied.Given as goal

-- the ratios before this one are copied
abbrev pub invariant-loop-k : goal.invariant-loop-k
invariant-loop-k l = record {
  len : length l.kept ≡ 8;
  went : (j : ℕ) (d : ℕ) → j < l.k → get_or l.kept j d ≡ get_or l.ratios j 0;
}
