use Rattle.std.proofs.Common.{◌≡◌, length, None, sym, ◌∙◌, arith}
use Rattle.std.proofs.lemmas.Bool.{eqb-true, eqb-false}
use Rattle.slot_rule.specs.Private.Heads.{Passes}
use Rattle.slot_rule.specs.declared.queue_state.QueueState.{QueueState}
use Rattle.slot_rule.specs.declared.queue_items.QueueItems.TheVariants.{Packets}
use Rattle.slot_rule.specs.Queues.{Audio}
use Rattle.slot_rule.proofs.TurnLaws.{IsFirst-read, IsFirstHead-none, head_of_turn, state_of_turn}
use Rattle.slot_rule.proofs.heads.due_head.Goals as goal

pub returns-then-is_empty : goal.returns-then-is_empty
returns-then-is_empty c =
    let none : length c.args.turns.now ≡ 0 = eqb-true (length c.args.turns.now) 0 (sym c.is_empty.ensures ∙ c.if-is_empty.true) in
    IsFirstHead-none Passes c.args.states.now c.args.turns.now 0 c.requires.turns (λ k turn state packet before. absurd (omega arith)) (omega arith)

pub bounds : goal.bounds
bounds c =
    let some : length c.args.turns.now ≡ 0 → ⊥ = eqb-false (length c.args.turns.now) 0 (sym c.is_empty.ensures ∙ c.if-is_empty.false) in
    let e : QueueState = record { kind = Audio; items = Packets 0 0; tb_empty = 0; mb_empty = 0; sent = 0; head = None; gone = 0; oldest = None; held = 0 } in
    (state_of_turn c.args.states.now c.args.turns.now 0 _ e c.requires.turns (omega arith)).0

pub offset_bounds-states-stream : goal.offset_bounds-states-stream
offset_bounds-states-stream c =
    let some : length c.args.turns.now ≡ 0 → ⊥ = eqb-false (length c.args.turns.now) 0 (sym c.is_empty.ensures ∙ c.if-is_empty.false) in
    let e : QueueState = record { kind = Audio; items = Packets 0 0; tb_empty = 0; mb_empty = 0; sent = 0; head = None; gone = 0; oldest = None; held = 0 } in
    omega (arith, c.requires.few, (state_of_turn c.args.states.now c.args.turns.now 0 (record { due = 0; stream = 0 }) e c.requires.turns (omega arith)).0)

pub returns-in-Some : goal.returns-in-Some
returns-in-Some c =
    let some : length c.args.turns.now ≡ 0 → ⊥ = eqb-false (length c.args.turns.now) 0 (sym c.is_empty.ensures ∙ c.if-is_empty.false) in
    (IsFirst-read Passes c.args.states.now c.args.turns.now 0 _ _ c.in-Some.packet c.requires.turns (omega arith) (λ k turn state packet before. absurd (omega arith)) (c.in-Some.is, tt)).0

pub returns-in-None : goal.returns-in-None
returns-in-None c =
    let some : length c.args.turns.now ≡ 0 → ⊥ = eqb-false (length c.args.turns.now) 0 (sym c.is_empty.ensures ∙ c.if-is_empty.false) in
    absurd (head_of_turn c.args.states.now c.args.turns.now 0 _ _ c.requires.turns (omega arith) c.in-None.is)
