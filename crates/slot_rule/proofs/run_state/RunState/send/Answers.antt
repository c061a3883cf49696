use Rattle.std.proofs.Common.{◌≡◌, All, Some, ap, arith}
use Rattle.std.proofs.lemmas.Option.{slice_get_within}
use Rattle.slot_rule.specs.declared.queue_state.QueueState.{QueueState}
use Rattle.slot_rule.specs.Private.QueueItems.{IsPlace}
use Rattle.slot_rule.specs.Private.QueueState.{IsNumbered, IsSmall, KeepsPlace, packets_at}
use Rattle.slot_rule.proofs.RunLaws.{at_read, sends_written, sent_gone, sent_turns, written_there}
use Rattle.slot_rule.proofs.run_state.RunState.send.Goals as goal

pub send-requires-clause-place : goal.send-requires-clause-place
send-requires-clause-place c =
    at_read (λ s. IsPlace c.args.table.now c.args.choice.now s.items) c.args.table.now c.args.choice.now
    c.args.self.now.states.items c.deref_mut.result.now c.args.head.stream c.args.head.packet _ c.deref_mut.ensures.value c.requires.sender c.requires.sender.placed.place

pub send-requires-clause-numbered : goal.send-requires-clause-numbered
send-requires-clause-numbered c =
    at_read (λ s. All IsNumbered (packets_at c.args.table.now c.args.choice.now s.items)) c.args.table.now c.args.choice.now
    c.args.self.now.states.items c.deref_mut.result.now c.args.head.stream c.args.head.packet _ c.deref_mut.ensures.value c.requires.sender c.requires.sender.placed.numbered

pub send-requires-clause-keeps : goal.send-requires-clause-keeps
send-requires-clause-keeps c =
    at_read (λ s. KeepsPlace (packets_at c.args.table.now c.args.choice.now s.items) s) c.args.table.now c.args.choice.now
    c.args.self.now.states.items c.deref_mut.result.now c.args.head.stream c.args.head.packet _ c.deref_mut.ensures.value c.requires.sender c.requires.sender.placed.keeps

pub send-requires-clause-head : goal.send-requires-clause-head
send-requires-clause-head c =
    at_read (λ s. s.head ≡ Some c.args.head.packet) c.args.table.now c.args.choice.now
    c.args.self.now.states.items c.deref_mut.result.now c.args.head.stream c.args.head.packet _ c.deref_mut.ensures.value c.requires.sender c.requires.sender.head

pub send-requires-clause-small : goal.send-requires-clause-small
send-requires-clause-small c =
    at_read IsSmall c.args.table.now c.args.choice.now
    c.args.self.now.states.items c.deref_mut.result.now c.args.head.stream c.args.head.packet _ c.deref_mut.ensures.value c.requires.sender c.requires.sender.small

pub returns-clause-sends : goal.returns-clause-sends
returns-clause-sends c =
    let olds = c.args.self.now.states.items in
    let sender = c.requires.sender in
    sends_written c.args.table.now c.args.choice.now c.args.head.stream c.args.head.packet c.args.now olds c.deref_mut.result.now _ c.send.new.self c.deref_mut.ensures.value
    (slice_get_within olds c.args.head.stream sender.state sender.there) (record { keeps = c.send.ensures.keeps; changed = c.send.ensures.changed })

pub returns-clause-turns : goal.returns-clause-turns
returns-clause-turns c =
    let olds = c.args.self.now.states.items in
    let sender = c.requires.sender in
    sent_turns c.args.table.now c.args.choice.now c.args.head.stream c.args.head.place c.args.now c.args.head.packet c.send.new.self.head olds _ c.args.self.now.turns.items c.pass_turn.new.turns.items
    sender (returns-clause-sends c)
    (λ new there. ap (λ (s : QueueState). s.head) (written_there olds c.deref_mut.result.now c.args.head.stream c.send.new.self new
    c.deref_mut.ensures.value (slice_get_within olds c.args.head.stream sender.state sender.there) there))
    c.requires.turns c.requires.place c.pass_turn.ensures.order c.pass_turn.ensures.passes

pub returns-clause-gone : goal.returns-clause-gone
returns-clause-gone c =
    sent_gone c.args.table.now c.args.choice.now c.args.head.stream c.args.now c.args.self.now.first_gone c.min-self.result c.args.head.packet c.args.self.now.states.items _ c.requires.sender
    (returns-clause-sends c) (omega (arith, c.min-self.ensures)) (omega (arith, c.min-self.ensures)) c.requires.gone
