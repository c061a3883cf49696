use Rattle.std.proofs.Common.{sym, ◌∙◌, arith}
use Rattle.slot_rule.specs.Private.QueueState.{packets_at}
use Rattle.slot_rule.proofs.StateLaws.{KeepsPlace-send, head_numbered, tb_subticks-le}
use Rattle.slot_rule.proofs.queue_state.QueueState.send.Goals as goal

pub overflow_mul-self : goal.overflow_mul-self
overflow_mul-self c = omega (arith, tb_subticks-le c.args.self.now.kind)

pub overflow_add-self : goal.overflow_add-self
overflow_add-self c = omega (arith, tb_subticks-le c.args.self.now.kind, c.requires.small.tb)

pub overflow_mul-self-2 : goal.overflow_mul-self-2
overflow_mul-self-2 c =
    let numbered = head_numbered (packets_at c.args.table.now c.args.choice.now c.args.self.now.items) c.args.self.now c.args.packet c.requires.numbered c.requires.keeps c.requires.head in
    omega (arith, numbered.payload)

pub overflow_add-self-2 : goal.overflow_add-self-2
overflow_add-self-2 c =
    let numbered = head_numbered (packets_at c.args.table.now c.args.choice.now c.args.self.now.items) c.args.self.now c.args.packet c.requires.numbered c.requires.keeps c.requires.head in
    omega (arith, numbered.payload, c.requires.small.mb)

pub overflow_add-self-3 : goal.overflow_add-self-3
overflow_add-self-3 c = omega (arith, c.requires.small.sent)

pub packet_after-self-requires-clause-numbered : goal.packet_after-self-requires-clause-numbered
packet_after-self-requires-clause-numbered c =
    head_numbered (packets_at c.args.table.now c.args.choice.now c.args.self.now.items) c.args.self.now c.args.packet c.requires.numbered c.requires.keeps c.requires.head

pub overflow_add-self-4 : goal.overflow_add-self-4
overflow_add-self-4 c =
    let numbered = head_numbered (packets_at c.args.table.now c.args.choice.now c.args.self.now.items) c.args.self.now c.args.packet c.requires.numbered c.requires.keeps c.requires.head in
    omega (arith, numbered.payload, c.requires.small.held)

pub returns-clause-keeps : goal.returns-clause-keeps
returns-clause-keeps c =
    let state = c.args.self.now in
    KeepsPlace-send (packets_at c.args.table.now c.args.choice.now state.items) state c.args.packet c.packet_after-self.result _ _
    c.requires.keeps c.requires.head (c.packet_after-self.ensures state.sent (sym c.requires.keeps.head ∙ c.requires.head))
