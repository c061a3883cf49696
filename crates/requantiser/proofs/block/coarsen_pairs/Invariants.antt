use Rattle.std.proofs.Common.{◌≡◌, ◌≤◌, ◌++◌, length, drop}
use Rattle.std.specs.Prelude.{if◌then◌else◌}
use Rattle.requantiser.specs.Private.Changes.{new_level_in}
use Rattle.requantiser.specs.Private.Shapes.{FitBlock}
use Rattle.requantiser.specs.Private.Walk.{coarsened_pairs}
use Rattle.requantiser.proofs.block.coarsen_pairs.Given as goal

-- what is made so far, and what becomes of the other coefficients, are what becomes of all
abbrev pub invariant-loop-pair : goal.invariant-loop-pair
invariant-loop-pair l = record {
  rest : l.to.items ++ coarsened_pairs (new_level_in l.weights l.rescaling.alternate l.rescaling.intra l.rescaling.from l.rescaling.to) l.place l.waiting (drop l.pair-index l.pairs)
      ≡ coarsened_pairs (new_level_in l.weights l.rescaling.alternate l.rescaling.intra l.rescaling.from l.rescaling.to) (if l.rescaling.intra then 1 else 0) 0 l.pairs;
  fit : FitBlock l.place (drop l.pair-index l.pairs);
  few : length l.to.items ≤ l.place;
  within : l.place ≤ 64;
  waiting : l.waiting ≤ l.place;
}
