use Rattle.std.proofs.Common.{ℕ, ◌*◌, ◌<◌, None, take}
use Rattle.stream_constants.specs.declared.clock.TheConstants.{SUBTICKS_PER_TICK}
use Rattle.slot_rule.specs.Private.Heads.{IsFirstHead, PassesAt}
use Rattle.slot_rule.proofs.idle.may_go_from.Given as goal

abbrev pub invariant-loop-state : goal.invariant-loop-state
invariant-loop-state l = (start : ℕ) → SUBTICKS_PER_TICK * start < l.from → IsFirstHead (PassesAt start) (take l.state-index l.states) None
