use Rattle.rate_fit.specs.Private.Greatest.{IsGreatestSaid}
use Rattle.rate_fit.proofs.greatest.greatest_said.Given as goal

abbrev pub invariant-loop-at : goal.invariant-loop-at
invariant-loop-at l = IsGreatestSaid l.slots l.verdicts l.at l.greatest
