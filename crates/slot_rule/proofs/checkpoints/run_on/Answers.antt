use Rattle.std.proofs.Common.{◌≡◌, ℕ, ◌*◌, List, None, length, vec_len, inl, sym, ap, subst, ◌∙◌, arith}
use Rattle.std.proofs.lemmas.Bool.{eqb-true}
use Rattle.slot_rule.specs.declared.queue_state.QueueState.{QueueState}
use Rattle.slot_rule.specs.declared.run_state.RunState.{RunState}
use Rattle.slot_rule.specs.SlotRun.{CountsCheckpoints, slots_apart}
use Rattle.slot_rule.specs.Private.Checkpoints.{AreCheckpoints, IsCheckpoint, reach}
use Rattle.slot_rule.specs.Private.Heads.{IsFirst, IsFirstHead, Passes}
use Rattle.slot_rule.proofs.CheckpointLaws.{AreCheckpoints-push, CountsCheckpoints-empty, IsCheckpoint-first, IsScheduled-empty}
use Rattle.slot_rule.proofs.checkpoints.run_on.Goals as goal

pub run_from_last-requires-in-Some-clause-are : goal.run_from_last-requires-in-Some-clause-are
run_from_last-requires-in-Some-clause-are c =
    let table = c.args.table.now in
    let choice = c.args.choice.now in
    let head = c.in-Some.field-0 in
    let zero : vec_len c.args.checkpoints.now ≡ 0 = eqb-true (vec_len c.args.checkpoints.now) 0 (sym c.is_empty.ensures ∙ c.if-not-is_empty.false) in
    let none : length c.args.checkpoints.now.items ≡ 0 = omega (arith, zero, c.args.checkpoints.now.ok.0) in
    let at : 0 ≡ slots_apart c.args.table.now * length c.args.checkpoints.now.items = omega arith ∙ sym (ap (λ (m : ℕ). slots_apart table * m) none) in
    let is : IsFirst Passes c.args.first.states.items c.in-Some.field-0.stream c.in-Some.field-0.packet =
    subst (λ (list : List QueueState). IsFirst Passes list head.stream head.packet) c.as_slice.ensures.value c.in-Some.ensures in
    subst (λ (list : List RunState). AreCheckpoints table choice list) (sym c.keep.ensures.adds)
    (AreCheckpoints-push table choice c.args.checkpoints.now.items c.args.first c.requires.are
    (subst (λ n. IsCheckpoint table choice n c.args.first) at (IsCheckpoint-first table choice c.args.first head.stream head.packet c.requires.first is)))

pub returns-in-None-clause-tells : goal.returns-in-None-clause-tells
returns-in-None-clause-tells c =
    inl (IsScheduled-empty c.args.table.now c.args.choice.now c.args.first c.requires.first
    (subst (λ (list : List QueueState). IsFirstHead Passes list None) c.as_slice.ensures.value c.in-None.ensures))

pub returns-in-None-clause-counts : goal.returns-in-None-clause-counts
returns-in-None-clause-counts c =
    let zero : vec_len c.args.checkpoints.now ≡ 0 = eqb-true (vec_len c.args.checkpoints.now) 0 (sym c.is_empty.ensures ∙ c.if-not-is_empty.false) in
    let none : length c.args.checkpoints.now.items ≡ 0 = omega (arith, zero, c.args.checkpoints.now.ok.0) in
    subst (λ n. CountsCheckpoints c.args.table.now c.args.choice.now (reach c.args.table.now c.args.end n) n) (sym none)
    (CountsCheckpoints-empty c.args.table.now c.args.choice.now c.args.first c.requires.first
    (subst (λ (list : List QueueState). IsFirstHead Passes list None) c.as_slice.ensures.value c.in-None.ensures) c.args.end)
