use Rattle.std.proofs.Common.{◌≡◌, ℕ, ◌+◌, ◌-◌, ◌*◌, ◌<◌, List, length, Some, sym, ap, subst, ◌∙◌, inr, arith}
use Rattle.std.proofs.lemmas.Nat.{mul-le}
use Rattle.std.proofs.lemmas.Option.{slice_get-get_or}
use Rattle.slot_rule.specs.declared.run_state.RunState.{RunState}
use Rattle.slot_rule.specs.SlotRun.{StillWaits, slots_apart}
use Rattle.slot_rule.specs.Private.Checkpoints.{AreCheckpoints, IsCheckpoint}
use Rattle.slot_rule.proofs.CheckpointLaws.{AreCheckpoints-push, IsCheckpoint-copy, StillWaits-from, counts-missed, counts-past, counts-sent, counts-until}
use Rattle.slot_rule.proofs.LatestDue.{apart-most, next_place, waits-few}
use Rattle.slot_rule.proofs.checkpoints.run_from_last.Goals as goal

pub overflow_mul-from : goal.overflow_mul-from
overflow_mul-from c =
    let most =
    mul-le c.args.apart (c.len-last.result - 1) 2097152 1024
    (omega (arith, c.requires.apart, apart-most c.args.table.now c.requires.valid)) (omega (arith, c.len-last.ensures, c.requires.few)) in
    omega (arith, most)

pub loop-from-init : goal.loop-from-init
loop-from-init c =
    let checkpoints = c.args.checkpoints.now.items in
    let last = c.index.result.now in
    let n = c.len-last.result in
    let many : c.len-last.result ≡ length c.args.checkpoints.now.items = omega (arith, c.len-last.ensures, c.args.checkpoints.now.ok.0) in
    let within : c.len-last.result - 1 < length c.args.checkpoints.now.items = omega (arith, many, c.requires.some, c.args.checkpoints.now.ok.0) in
    let at : c.args.apart * (c.len-last.result - 1) ≡ slots_apart c.args.table.now * (c.len-last.result - 1) = ap (λ d. d * (n - 1)) c.requires.apart in
    record {
      room = omega arith;
      some = omega (arith, c.requires.some, c.args.checkpoints.now.ok.0);
      few = c.requires.few;
      are = c.requires.are;
      from = at ∙ ap (λ (m : ℕ). slots_apart c.args.table.now * (m - 1)) many;
      last = subst (λ s. IsCheckpoint c.args.table.now c.args.choice.now s c.copy-run.result) (sym at)
          (IsCheckpoint-copy c.args.table.now c.args.choice.now (slots_apart c.args.table.now * (c.len-last.result - 1))
          c.index.result.now c.copy-run.result c.copy-run.ensures.states c.copy-run.ensures.turns c.copy-run.ensures.gone
          (c.requires.are (c.len-last.result - 1) c.index.result.now
          (slice_get-get_or checkpoints (c.len-last.result - 1) last within ∙ sym (ap Some c.index.ensures))));
    }

pub returns-in-Missed-clause-counts : goal.returns-in-Missed-clause-counts
returns-in-Missed-clause-counts c =
    let has = c.loop-from.invariant in
    let next = next_place (slots_apart c.args.table.now) (length c.loop-from.checkpoints.items) has.some in
    counts-missed c.args.table.now c.args.choice.now c.loop-from.checkpoints.items c.args.end c.in-Missed.miss has.are has.some
    (omega (arith, has.from, c.loop-from-test.true)) c.in-Missed.ensures.0 (omega (arith, next, has.from, c.requires.apart, c.in-Missed.ensures.2, c.min.ensures))

pub returns-in-AllSent-clause-counts : goal.returns-in-AllSent-clause-counts
returns-in-AllSent-clause-counts c =
    let has = c.loop-from.invariant in
    let next = next_place (slots_apart c.args.table.now) (length c.loop-from.checkpoints.items) has.some in
    counts-sent c.args.table.now c.args.choice.now c.loop-from.checkpoints.items c.args.end _ _ c.loop-from.run has.are has.some
    (omega (arith, has.from, c.loop-from-test.true)) c.in-AllSent.ensures (omega (arith, next, has.from, c.requires.apart, c.min.ensures))

pub returns-then-end-next-clause-tells : goal.returns-then-end-next-clause-tells
returns-then-end-next-clause-tells c =
    let is : IsCheckpoint c.args.table.now c.args.choice.now c.min.result c.run_slots.new.run =
    record { reached = c.in-Waiting.ensures.0; waits = c.in-Waiting.ensures.1 c.loop-from.invariant.last.waits } in
    inr (c.min.result, omega (arith, c.min.ensures, c.if-end-next.true), StillWaits-from c.args.table.now c.args.choice.now c.min.result c.run_slots.new.run is)

pub returns-then-end-next-clause-counts : goal.returns-then-end-next-clause-counts
returns-then-end-next-clause-counts c =
    let has = c.loop-from.invariant in
    let next = next_place (slots_apart c.args.table.now) (length c.loop-from.checkpoints.items) has.some in
    counts-until c.args.table.now c.args.choice.now c.loop-from.checkpoints.items c.args.end has.are has.some
    (omega (arith, has.from, c.loop-from-test.true)) (λ k upto still. omega (arith, upto, next, has.from, c.requires.apart, c.if-end-next.true))

pub keep-requires : goal.keep-requires
keep-requires c =
    let has = c.loop-from.invariant in
    let n = length c.loop-from.checkpoints.items in
    let next = next_place (slots_apart c.args.table.now) (length c.loop-from.checkpoints.items) has.some in
    let at : c.min.result ≡ slots_apart c.args.table.now * length c.loop-from.checkpoints.items = omega (arith, next, has.from, c.requires.apart, c.min.ensures, c.if-end-next.false) in
    let is : IsCheckpoint c.args.table.now c.args.choice.now c.min.result c.run_slots.new.run =
    record { reached = c.in-Waiting.ensures.0; waits = c.in-Waiting.ensures.1 c.loop-from.invariant.last.waits } in
    let still : StillWaits c.args.table.now c.args.choice.now (slots_apart c.args.table.now * length c.loop-from.checkpoints.items) =
    subst (λ s. StillWaits c.args.table.now c.args.choice.now s) at (StillWaits-from c.args.table.now c.args.choice.now c.min.result c.run_slots.new.run is) in
    let few = waits-few c.args.table.now c.args.choice.now n c.requires.valid still in
    record { room = omega (arith, few, has.room, c.requires.room, c.loop-from.checkpoints.ok.0) }

pub loop-from-preserved : goal.loop-from-preserved
loop-from-preserved c =
    let table = c.args.table.now in
    let choice = c.args.choice.now in
    let has = c.loop-from.invariant in
    let n = length c.loop-from.checkpoints.items in
    let next = next_place (slots_apart c.args.table.now) (length c.loop-from.checkpoints.items) has.some in
    let at : c.min.result ≡ slots_apart c.args.table.now * length c.loop-from.checkpoints.items = omega (arith, next, has.from, c.requires.apart, c.min.ensures, c.if-end-next.false) in
    let is : IsCheckpoint c.args.table.now c.args.choice.now c.min.result c.run_slots.new.run =
    record { reached = c.in-Waiting.ensures.0; waits = c.in-Waiting.ensures.1 c.loop-from.invariant.last.waits } in
    let here : IsCheckpoint c.args.table.now c.args.choice.now (slots_apart c.args.table.now * length c.loop-from.checkpoints.items) c.run_slots.new.run =
    subst (λ s. IsCheckpoint table choice s c.run_slots.new.run) at is in
    let copy : IsCheckpoint c.args.table.now c.args.choice.now (slots_apart c.args.table.now * length c.loop-from.checkpoints.items) c.copy.result =
    IsCheckpoint-copy table choice (slots_apart table * n) c.run_slots.new.run c.copy.result c.copy.ensures.states c.copy.ensures.turns c.copy.ensures.gone here in
    let few = waits-few c.args.table.now c.args.choice.now n c.requires.valid (StillWaits-from table choice (slots_apart table * n) c.run_slots.new.run here) in
    let longer : length c.keep.new.checkpoints.items ≡ length c.loop-from.checkpoints.items + 1 =
    omega (arith, c.keep.ensures.longer, c.keep.new.checkpoints.ok.0, c.loop-from.checkpoints.ok.0) in
    let less : length c.keep.new.checkpoints.items - 1 ≡ length c.loop-from.checkpoints.items = omega (arith, longer) in
    record {
      room = omega (arith, has.room, c.keep.ensures.room);
      some = omega (arith, longer);
      few = omega (arith, few, c.keep.ensures.longer, c.loop-from.checkpoints.ok.0);
      are = subst (λ (list : List RunState). AreCheckpoints table choice list) (sym c.keep.ensures.adds) (AreCheckpoints-push table choice c.loop-from.checkpoints.items c.copy.result has.are copy);
      from = omega (arith, next, has.from, c.requires.apart) ∙ sym (ap (λ (m : ℕ). slots_apart table * m) less);
      last = subst (λ s. IsCheckpoint table choice s c.run_slots.new.run) (omega (arith, c.min.ensures, c.if-end-next.false)) is;
    }

pub returns-clause-tells : goal.returns-clause-tells
returns-clause-tells c =
    inr (c.loop-from.from, omega (arith, c.loop-from-test.false), StillWaits-from c.args.table.now c.args.choice.now c.loop-from.from c.loop-from.run c.loop-from.invariant.last)

pub returns-clause-counts : goal.returns-clause-counts
returns-clause-counts c =
    let has = c.loop-from.invariant in
    counts-past c.args.table.now c.args.choice.now c.loop-from.checkpoints.items c.args.end has.are has.some (omega (arith, has.from, c.loop-from-test.false))
