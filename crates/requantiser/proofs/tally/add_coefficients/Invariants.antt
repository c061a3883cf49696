use Rattle.std.proofs.Common.{◌<◌, ◌≤◌, ℕ, drop, get_or}
use Rattle.requantiser.specs.Private.Changes.{change_in, new_level_in}
use Rattle.requantiser.specs.Private.Counts.{tally_in, with_squares}
use Rattle.requantiser.specs.Private.Shapes.{FitBlock}
use Rattle.requantiser.specs.Private.Tallies.{IsTallied}
use Rattle.requantiser.proofs.tally.add_coefficients.Given as goal

-- in each version the coefficients so far are counted
abbrev pub invariant-loop-pair : goal.invariant-loop-pair
invariant-loop-pair l = record {
  each : (k : ℕ) (below : k < 8) → IsTallied l.fn.way
      (new_level_in l.weights l.rescaling.alternate l.rescaling.intra l.rescaling.from (get_or l.targets.scales k 0))
      (change_in l.weights l.rescaling.alternate l.rescaling.intra l.rescaling.from (get_or l.targets.scales k 0))
      l.place (drop l.pair-index l.pairs) l.pairs (tally_in l.targets l.initial.counts k below) (tally_in l.targets (with_squares l.counts l.squares) k below);
  fit : FitBlock l.place (drop l.pair-index l.pairs);
  within : l.place ≤ 64;
}
