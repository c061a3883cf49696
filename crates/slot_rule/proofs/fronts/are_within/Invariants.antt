use Rattle.std.proofs.Common.{◌≡◌, ℕ, ◌<◌, slice_get, Some}
use Rattle.slot_rule.specs.declared.fronts.Front.{Front}
use Rattle.slot_rule.specs.declared.queue_state.QueueState.{QueueState}
use Rattle.slot_rule.specs.Private.Checkpoints.{IsWithin}
use Rattle.slot_rule.proofs.fronts.are_within.Given as goal

abbrev pub invariant-loop-stream : goal.invariant-loop-stream
invariant-loop-stream l =
    (stream : ℕ) (state : QueueState) (front : Front) → stream < l.stream → slice_get l.states stream ≡ Some state → slice_get l.fronts stream ≡ Some front → IsWithin front state
