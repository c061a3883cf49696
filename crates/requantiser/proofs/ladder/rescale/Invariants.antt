use Rattle.std.proofs.Common.{◌≡◌, ◌<◌, ◌≤◌, ℕ, length, get_or}
use Rattle.requantiser.specs.Private.Rungs.{IsRescaled}
use Rattle.requantiser.proofs.ladder.rescale.Given as goal

-- what the coefficient becomes in the versions before this one
abbrev pub invariant-loop-k : goal.invariant-loop-k
invariant-loop-k l = record {
  sizes : length l.sizes ≡ 8;
  squares : length l.squares ≡ 8;
  each : (j : ℕ) → j < l.k → IsRescaled l.coefficient.level l.coefficient.weight l.rescaling.from l.rescaling.intra (get_or l.targets.scales j 0) (get_or l.sizes j 0) (get_or l.squares j 0);
  most : l.living ≤ l.k;
  gone : (j : ℕ) (d : ℕ) → j < l.k → l.living ≤ j → get_or l.sizes j d ≡ 0;
}
