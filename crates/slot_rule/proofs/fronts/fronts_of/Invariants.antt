use Rattle.std.proofs.Common.{◌≡◌, ℕ, length, slice_get, Some}
use Rattle.slot_rule.specs.declared.fronts.Front.{Front}
use Rattle.slot_rule.specs.declared.queue_state.QueueState.{QueueState}
use Rattle.slot_rule.specs.Private.Checkpoints.{IsFront}
use Rattle.slot_rule.proofs.fronts.fronts_of.Given as goal

abbrev pub invariant-loop-state : goal.invariant-loop-state
invariant-loop-state l = record {
  as_many : length l.fronts.items ≡ l.state-index;
  each : (stream : ℕ) (state : QueueState) (front : Front) → slice_get l.states stream ≡ Some state → slice_get l.fronts.items stream ≡ Some front
      → IsFront l.table l.old l.new state front;
}
