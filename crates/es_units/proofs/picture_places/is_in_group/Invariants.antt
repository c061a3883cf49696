use Rattle.std.proofs.Common.{◌≡◌, ◌==◌, ℕ, false, ◌<◌, ◌≤◌}
use Rattle.stream_constants.specs.declared.start_codes.TheConstants.{GROUP}
use Rattle.es_units.specs.StartCodes.{has_code}
use Rattle.es_units.proofs.picture_places.is_in_group.Given as goal

abbrev pub invariant-loop-group : goal.invariant-loop-group
invariant-loop-group l = (k : ℕ) → l.first ≤ k → k < l.group → has_code (λ value. value == GROUP) l.es k ≡ false
