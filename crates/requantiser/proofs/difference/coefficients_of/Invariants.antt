use Rattle.std.proofs.Common.{◌≤◌, drop}
use Rattle.requantiser.specs.Private.Shapes.{FitBlock}
use Rattle.requantiser.proofs.Coefficients.{StandSoFar}
use Rattle.requantiser.proofs.difference.coefficients_of.Given as goal

abbrev pub invariant-loop-pair : goal.invariant-loop-pair
invariant-loop-pair l = record {
  so_far : StandSoFar l.picture.seq.now l.picture.coding.now l.way l.code l.block l.coefficients l.place (drop l.pair-index l.pair-items);
  fit : FitBlock l.place (drop l.pair-index l.pair-items);
  within : l.place ≤ 64;
}
