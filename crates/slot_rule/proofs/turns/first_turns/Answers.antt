use Rattle.std.proofs.Common.{◌≡◌, ◌+◌, List, ap, length, sym, subst, take, arith}
use Rattle.arrayvec.specs.ArrayVec.{ArrayVec}
use Rattle.slot_rule.specs.declared.turns.Turn.{Turn}
use Rattle.slot_rule.specs.Private.Turns.{AddsTurn, AreTurns}
use Rattle.slot_rule.proofs.TurnLaws.{AreTurns-more, AreTurns-without}
use Rattle.slot_rule.proofs.turns.first_turns.Goals as goal
use Rattle.slot_rule.proofs.turns.first_turns.Goals.{in-Some, in_default}

pub loop-stream-preserved : goal.loop-stream-preserved
loop-stream-preserved c =
    let states = c.args.states.now in
    let n = c.loop-stream.stream in
    let news = c.match-state.turns.items in
    elim c.match-state.branch [
      | in-Some w ↦
          (let items : c.match-state.turns.items ≡ w.add_turn.new.turns.items = ap (λ (turns : ArrayVec Turn). turns.items) w.turns-is in
          let adds = subst (λ (turn : Turn). AddsTurn turn c.loop-stream.turns.items w.add_turn.new.turns.items) w.of.ensures w.add_turn.ensures.adds in
          record {
            turns = subst (λ (list : List Turn). AreTurns (take (n + 1) states) list) (sym items)
                (AreTurns-more states n _ w.in-Some.packet c.loop-stream.turns.items w.add_turn.new.turns.items c.loop-stream-test.true w.in-Some.is
                c.loop-stream.invariant.turns w.add_turn.ensures.order adds);
            few = omega (arith, adds.longer, ap (λ (list : List Turn). length list) items, c.loop-stream.invariant.few);
          })
      | in_default w ↦
          (let items : c.match-state.turns.items ≡ c.loop-stream.turns.items = ap (λ (turns : ArrayVec Turn). turns.items) w.turns-is in
          record {
            turns = subst (λ (list : List Turn). AreTurns (take (n + 1) states) list) (sym items)
                (AreTurns-without states n _ c.loop-stream.turns.items c.loop-stream-test.true w.in_default.not-Some c.loop-stream.invariant.turns);
            few = omega (arith, ap (λ (list : List Turn). length list) items, c.loop-stream.invariant.few);
          })
    ]
