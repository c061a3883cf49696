use Rattle.version_source.specs.Private.Place.{Skips}
use Rattle.version_source.proofs.place.place_of.Given as goal

abbrev pub invariant-loop-k : goal.invariant-loop-k
invariant-loop-k l = Skips l.programs l.choice l.stream l.k l.left l.rest
