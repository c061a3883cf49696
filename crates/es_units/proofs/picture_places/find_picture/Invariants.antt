use Rattle.std.proofs.Common.{◌≡◌, ℕ, false, ◌<◌, ◌≤◌}
use Rattle.es_units.specs.Pictures.{begins_picture}
use Rattle.es_units.proofs.picture_places.find_picture.Given as goal

abbrev pub invariant-loop-at : goal.invariant-loop-at
invariant-loop-at l = (k : ℕ) → l.from ≤ k → k < l.at → begins_picture l.es k ≡ false
