use Rattle.std.proofs.Common.{ℕ, ◌<◌, ◌≡◌, List, length, get_or, ap, sym, subst, arith}
use Rattle.slot_rule.specs.declared.turns.Turn.{Turn}
use Rattle.slot_rule.specs.Private.Turns.{AddsTurn, GoesBefore, IsTurnOrder}
use Rattle.slot_rule.proofs.TurnLaws.{AddsTurn-insert, IsTurnOrder-insert}
use Rattle.slot_rule.proofs.turns.add_turn.Goals as goal

pub returns-clause-order : goal.returns-clause-order
returns-clause-order c =
    let same : c.as_slice.result.now ≡ c.args.turns.now.items = c.as_slice.ensures.value in
    let place = c.place_of-place.ensures in
    subst IsTurnOrder (sym c.insert.ensures.items)
    (IsTurnOrder-insert c.args.turns.now.items c.place_of-place.result c.args.turn c.requires.order c.requires.apart (omega (arith, place.within, ap length same))
    (subst (λ (list : List Turn). (k : ℕ) (d : Turn) → k < c.place_of-place.result → GoesBefore c.args.turn (get_or list k d) → ⊥) same place.before)
    (subst (λ (list : List Turn). (d : Turn) → c.place_of-place.result < length list → GoesBefore c.args.turn (get_or list c.place_of-place.result d)) same place.after))

pub returns-clause-adds : goal.returns-clause-adds
returns-clause-adds c =
    subst (λ (list : List Turn). AddsTurn c.args.turn c.args.turns.now.items list) (sym c.insert.ensures.items)
    (AddsTurn-insert c.args.turns.now.items c.place_of-place.result c.args.turn (omega (arith, c.place_of-place.ensures.within, ap length c.as_slice.ensures.value)))
