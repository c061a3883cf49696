use Rattle.std.proofs.Common.{◌≡◌, ◌*◌, List, length, sym, ap, subst, ◌∙◌}
use Rattle.stream_constants.specs.declared.clock.TheConstants.{SUBTICKS_PER_TICK}
use Rattle.slot_rule.specs.declared.queue_state.QueueState.{QueueState}
use Rattle.slot_rule.specs.Private.Heads.{NoneGoneBefore}
use Rattle.slot_rule.specs.Private.States.{ChangesEach, TakesPcr}
use Rattle.slot_rule.specs.Private.Turns.{AreTurns}
use Rattle.slot_rule.proofs.RunLaws.{pcr_gone, pcr_turns}
use Rattle.slot_rule.proofs.TurnLaws.{refill_all}
use Rattle.slot_rule.proofs.run_state.RunState.reserve.Goals as goal

pub returns-in-Pcr-clause-turns : goal.returns-in-Pcr-clause-turns
returns-in-Pcr-clause-turns c =
    let same : c.as_mut_slice.result.now ≡ c.args.self.now.states.items = c.as_mut_slice.ensures.value in
    subst (λ (list : List QueueState). AreTurns list c.args.self.now.turns.items)
    (sym (refill_all (length c.args.self.now.states.items) c.args.self.now.states.items c.take_pcr.new.states (c.take_pcr.ensures.as_many ∙ ap (λ (list : List QueueState). length list) same)))
    (pcr_turns c.in-Pcr.program (SUBTICKS_PER_TICK * c.args.start) c.args.self.now.states.items c.take_pcr.new.states c.args.self.now.turns.items
    (subst (λ (list : List QueueState). ChangesEach (TakesPcr c.in-Pcr.program (SUBTICKS_PER_TICK * c.args.start)) list c.take_pcr.new.states) same c.take_pcr.ensures) c.requires.turns)

pub returns-in-Pcr-clause-gone : goal.returns-in-Pcr-clause-gone
returns-in-Pcr-clause-gone c =
    let same : c.as_mut_slice.result.now ≡ c.args.self.now.states.items = c.as_mut_slice.ensures.value in
    subst (λ (list : List QueueState). NoneGoneBefore list c.args.self.now.first_gone)
    (sym (refill_all (length c.args.self.now.states.items) c.args.self.now.states.items c.take_pcr.new.states (c.take_pcr.ensures.as_many ∙ ap (λ (list : List QueueState). length list) same)))
    (pcr_gone c.in-Pcr.program (SUBTICKS_PER_TICK * c.args.start) c.args.self.now.states.items c.take_pcr.new.states c.args.self.now.first_gone
    (subst (λ (list : List QueueState). ChangesEach (TakesPcr c.in-Pcr.program (SUBTICKS_PER_TICK * c.args.start)) list c.take_pcr.new.states) same c.take_pcr.ensures) c.requires.gone)
