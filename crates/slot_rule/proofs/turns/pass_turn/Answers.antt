use Rattle.std.proofs.Common.{◌≡◌, List, get_or, Option, All, sym, subst, subst₂}
use Rattle.std.proofs.lemmas.List.Elements.{Contains-get_or}
use Rattle.std.specs.List.{remove}
use Rattle.slot_rule.specs.declared.turns.Turn.{Turn}
use Rattle.slot_rule.specs.Private.Turns.{AddsTurn, IsTurnOrder, PassesTurn}
use Rattle.slot_rule.specs.Queues.{QueuedPacket}
use Rattle.slot_rule.proofs.TurnLaws.{IsTurnOrder-remove, PassesTurn-last, PassesTurn-later, PassesTurn-same, remove-others, turn_at}
use Rattle.slot_rule.proofs.turns.pass_turn.Goals as goal

pub add_turn-requires-clause-order : goal.add_turn-requires-clause-order
add_turn-requires-clause-order c =
    subst IsTurnOrder (sym c.remove.ensures.items) (IsTurnOrder-remove c.args.turns.now.items c.args.place c.requires.place c.requires.order)

pub add_turn-requires-clause-apart : goal.add_turn-requires-clause-apart
add_turn-requires-clause-apart c =
    subst₂ (λ (list : List Turn) (turn : Turn). All (λ other. other.stream ≡ turn.stream → ⊥) list) (sym c.remove.ensures.items) (sym c.of.ensures)
    (λ k d within.
    (remove-others c.args.turns.now.items c.args.place _ (get_or (remove c.args.turns.now.items c.args.place) k d) c.requires.order
    (turn_at c.as_slice.result.now c.args.turns.now.items c.args.place _ c.as_slice.ensures.value c.requires.place)
    (Contains-get_or (remove c.args.turns.now.items c.args.place) k d within)).0)

pub returns-in-Some-clause-passes : goal.returns-in-Some-clause-passes
returns-in-Some-clause-passes c =
    let turns = c.args.turns.now.items in
    subst (λ (next : Option QueuedPacket). PassesTurn c.args.place next turns turns) (sym c.in-Some.is)
    (PassesTurn-same turns c.args.place _ c.in-Some.packet c.requires.order (turn_at c.as_slice.result.now turns c.args.place _ c.as_slice.ensures.value c.requires.place) c.if-packet-turn.true)

pub returns-in-Some-2-clause-passes : goal.returns-in-Some-2-clause-passes
returns-in-Some-2-clause-passes c =
    let turns = c.args.turns.now.items in
    let news = c.add_turn.new.turns.items in
    subst (λ (next : Option QueuedPacket). PassesTurn c.args.place next turns news) (sym c.in-Some-2.is)
    (PassesTurn-later turns news c.args.place _ c.in-Some-2.packet c.requires.order (turn_at c.as_slice.result.now turns c.args.place _ c.as_slice.ensures.value c.requires.place)
    (subst₂ (λ (turn : Turn) (list : List Turn). AddsTurn turn list news) c.of.ensures c.remove.ensures.items c.add_turn.ensures.adds))

pub returns-in-None-clause-order : goal.returns-in-None-clause-order
returns-in-None-clause-order c =
    subst IsTurnOrder (sym c.remove-in-None.ensures.items) (IsTurnOrder-remove c.args.turns.now.items c.args.place c.requires.place c.requires.order)

pub returns-in-None-clause-passes : goal.returns-in-None-clause-passes
returns-in-None-clause-passes c =
    let turns = c.args.turns.now.items in
    subst₂ (λ (next : Option QueuedPacket) (list : List Turn). PassesTurn c.args.place next turns list) (sym c.in-None.is) (sym c.remove-in-None.ensures.items)
    (PassesTurn-last turns c.args.place (get_or c.as_slice.result.now c.args.place (record { due = 0; stream = 0 })) c.requires.order
    (turn_at c.as_slice.result.now turns c.args.place _ c.as_slice.ensures.value c.requires.place))
