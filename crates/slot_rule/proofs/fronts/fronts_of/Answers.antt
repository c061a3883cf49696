use Rattle.std.proofs.Common.{◌≡◌, List, slice_get, Some, sym, ap, ◌∙◌, inl, inr, arith}
use Rattle.std.proofs.lemmas.Option.{get_or_from_slice_get}
use Rattle.slot_rule.specs.declared.fronts.Front.{Front}
use Rattle.slot_rule.specs.declared.queue_state.QueueState.{QueueState}
use Rattle.slot_rule.specs.Private.Checkpoints.{IsFront}
use Rattle.slot_rule.proofs.CheckpointLaws.{push_cases}
use Rattle.slot_rule.proofs.FrontPackets.{IsFront-made}
use Rattle.slot_rule.proofs.fronts.fronts_of.Goals as goal

pub loop-state-preserved : goal.loop-state-preserved
loop-state-preserved c =
    let states = c.args.states.now in
    let n = c.loop-state.state-index in
    record {
      as_many = omega (arith, c.push.ensures.len, c.loop-state.invariant.as_many);
      each = λ stream state found there at.
          let at' = ap (λ (list : List Front). slice_get list stream) (sym c.push.ensures.items) ∙ at in
          elim (push_cases c.loop-state.fronts.items c.front_of.result found stream at') as (λ _. IsFront c.args.table.now c.args.old.now c.args.new.now state found) [
            | inl earlier ↦ c.loop-state.invariant.each stream state found there earlier.1
            | inr last ↦
                (let here : slice_get c.args.states.now c.loop-state.state-index ≡ Some state = ap (λ k. slice_get c.args.states.now k) (sym (last.0 ∙ c.loop-state.invariant.as_many)) ∙ there in
                IsFront-made c.args.table.now c.args.old.now c.args.new.now state c.front_of.result found _ last.1
                (ap (λ (s : QueueState). s.items) (get_or_from_slice_get states n state _ here)) c.front_of.ensures.same c.front_of.ensures.whole)
          ];
    }
