use Rattle.std.proofs.Common.{◌+◌, ◌*◌, List, subst}
use Rattle.stream_constants.specs.declared.clock.TheConstants.{SUBTICKS_PER_TICK}
use Rattle.slot_rule.specs.declared.queue_state.QueueState.{QueueState}
use Rattle.slot_rule.specs.Private.Slots.{TellsAfter}
use Rattle.slot_rule.proofs.run_state.RunState.after.Goals as goal

pub returns : goal.returns
returns c = subst (λ (states : List QueueState). TellsAfter states (SUBTICKS_PER_TICK * ((c.args.n + 1) * c.args.slot)) c.args.row c.args.n c.slot.result) c.as_slice.ensures.value c.slot.ensures
