use Rattle.std.proofs.Common.{ap, ◌∙◌, arith}
use Rattle.std.proofs.lemmas.Option.{get_or_from_slice_get}
use Rattle.slot_rule.specs.declared.queue_state.QueueState.{QueueState}
use Rattle.slot_rule.specs.SlotList.{piece_sent}
use Rattle.slot_rule.proofs.row.Row.sent.Goals as goal

pub overflow_cast-stream : goal.overflow_cast-stream
overflow_cast-stream c = (let stands = rw c.in-Carries.is at c.requires.stands in omega (arith, c.requires.few, stands.0))

pub bounds-states-stream : goal.bounds-states-stream
bounds-states-stream c = (rw c.in-Carries.is at c.requires.stands).0

pub returns-in-Carries : goal.returns-in-Carries
returns-in-Carries c =
    rw c.in-Carries.is λ state there.
    c.sent.ensures
    ∙ ap (λ (s : QueueState). piece_sent s.kind c.in-Carries.stream c.in-Carries.packet) (get_or_from_slice_get c.args.states.now c.in-Carries.stream state _ there)
