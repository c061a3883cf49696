use Rattle.std.proofs.Common.{◌≡◌, ℕ, ◌<◌, slice_get, Some}
use Rattle.slot_rule.specs.declared.run_state.RunState.{RunState}
use Rattle.slot_rule.specs.Private.Checkpoints.{AreWithin}
use Rattle.slot_rule.proofs.checkpoints.still_right.Given as goal

abbrev pub invariant-loop-k : goal.invariant-loop-k
invariant-loop-k l = (k : ℕ) (run : RunState) → k < l.k → slice_get l.checkpoints k ≡ Some run → AreWithin l.fronts run.states.items
