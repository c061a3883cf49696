use Rattle.std.proofs.Common.{◌≡◌, ◌<◌, ℕ, get_or}
use Rattle.requantiser.proofs.targets.begin_with.Given as goal

-- the ratios before this one are the same
abbrev pub invariant-loop-k : goal.invariant-loop-k
invariant-loop-k l = record {
  same : (j : ℕ) → j < l.k → ◌≡◌ {A = ℕ} (get_or l.kept j 0) (get_or l.ratios j 0);
}
