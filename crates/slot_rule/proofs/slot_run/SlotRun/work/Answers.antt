use Rattle.std.proofs.Common.{◌≡◌, ℕ, ◌*◌, ◌<◌, ◌≤◌, List, length, IsNone, refl, sym, ap, ap₂, subst, ◌∙◌, inl, inr, true≢false, arith}
use Rattle.stream_constants.specs.declared.clock.TheConstants.{SUBTICKS_PER_TICK}
use Rattle.slot_rule.specs.declared.queue_state.QueueState.{QueueState}
use Rattle.slot_rule.specs.declared.run_state.RunState.{RunState}
use Rattle.slot_rule.specs.SlotRun.{IsCheckpointCount, IsKeptWork, KeptRun, slots_apart, streams_of}
use Rattle.slot_rule.specs.Private.QueueState.{work_of_state}
use Rattle.slot_rule.proofs.KeptRunLaws.{IsKeptWork-state, count_is, streams_are}
use Rattle.slot_rule.proofs.Places.{slice_get_read_as}
use Rattle.std.proofs.lemmas.Nat.{mul-le}
use Rattle.version_table.specs.declared.table.Table.{Table}
use Rattle.version_table.specs.Table.{IsValidTable}
use Rattle.slot_rule.specs.declared.slot_run.SlotRun.TheInside.{Inside}
use Rattle.slot_rule.specs.Private.SlotRun.{KeepsRun}
use Rattle.slot_rule.proofs.LatestDue.{apart-most}
use Rattle.slot_rule.proofs.slot_run.SlotRun.work.Goals as goal

pub returns-in_err-checkpoint-clause-none : goal.returns-in_err-checkpoint-clause-none
returns-in_err-checkpoint-clause-none c count is =
    let many = count_is c.self.inside count c.self.invariant (subst (λ (run : KeptRun). IsCheckpointCount run count) (sym c.self.view_is) is) in
    let size = ap (λ (list : List RunState). length list) c.as_slice.ensures.value in
    let past = c.in_err-checkpoint.ensures.lookup.3 in
    ((λ _. inl (omega (arith, many, size, past))), λ _. subst (λ o. IsNone o) (sym c.from_residual.ensures) refl)

pub returns-in_err-state-clause-none : goal.returns-in_err-state-clause-none
returns-in_err-state-clause-none c count is =
    let l = c.in_ok-checkpoint.ensures.lookup in
    let there = slice_get_read_as c.as_slice.result.now c.self.inside.checkpoints.items c.args.k c.in_ok-checkpoint.checkpoint.now c.as_slice.ensures.value l.3.0 l.1 in
    let streams = streams_are c.self.inside.table.now c.self.inside.choice.items (slots_apart c.self.inside.table.now * c.args.k)
    c.in_ok-checkpoint.checkpoint.now (c.self.invariant.are c.args.k c.in_ok-checkpoint.checkpoint.now there).reached in
    let same : streams_of c.self.inside.table.now ≡ streams_of c.args.self.now.table = ap (λ (run : KeptRun). streams_of run.table) c.self.view_is in
    let size = ap (λ (list : List QueueState). length list) c.as_slice-2.ensures.value in
    let past = c.in_err-state.ensures.lookup.3 in
    ((λ _. inr (omega (arith, streams, same, size, past))), λ _. subst (λ o. IsNone o) (sym c.from_residual-in_err-state.ensures) refl)

pub returns-clause-none : goal.returns-clause-none
returns-clause-none c count is =
    let many = count_is c.self.inside count c.self.invariant (subst (λ (run : KeptRun). IsCheckpointCount run count) (sym c.self.view_is) is) in
    let l = c.in_ok-checkpoint.ensures.lookup in
    let there = slice_get_read_as c.as_slice.result.now c.self.inside.checkpoints.items c.args.k c.in_ok-checkpoint.checkpoint.now c.as_slice.ensures.value l.3.0 l.1 in
    let streams = streams_are c.self.inside.table.now c.self.inside.choice.items (slots_apart c.self.inside.table.now * c.args.k)
    c.in_ok-checkpoint.checkpoint.now (c.self.invariant.are c.args.k c.in_ok-checkpoint.checkpoint.now there).reached in
    let same : streams_of c.self.inside.table.now ≡ streams_of c.args.self.now.table = ap (λ (run : KeptRun). streams_of run.table) c.self.view_is in
    let size = ap (λ (list : List RunState). length list) c.as_slice.ensures.value in
    let size' = ap (λ (list : List QueueState). length list) c.as_slice-2.ensures.value in
    let within = l.3.0 in
    let within' = c.in_ok-state.ensures.lookup.3.0 in (
      (λ never. absurd (true≢false never)),
      (λ past. absurd (elim past as (λ _. ⊥) [
        | inl few ↦ (let e : ⊥ = omega (arith, many, size, within, few) in e)
        | inr few ↦ (let e : ⊥ = omega (arith, streams, same, size', within', few) in e)
      ])),
    )

pub returns-clause-some : goal.returns-clause-some
returns-clause-some c =
    let k = c.args.k in
    let stream = c.args.stream in
    let l = c.in_ok-checkpoint.ensures.lookup in
    let m = c.in_ok-state.ensures.lookup in
    let there = slice_get_read_as c.as_slice.result.now c.self.inside.checkpoints.items c.args.k c.in_ok-checkpoint.checkpoint.now c.as_slice.ensures.value l.3.0 l.1 in
    let at = slice_get_read_as c.as_slice-2.result.now c.in_ok-checkpoint.checkpoint.now.states.items c.args.stream c.in_ok-state.state.now c.as_slice-2.ensures.value m.3.0 m.1 in
    let time : SUBTICKS_PER_TICK * (c.from.result * c.from-2.result * c.from-3.result) ≡ SUBTICKS_PER_TICK * (slots_apart c.self.inside.table.now * c.args.k * c.self.inside.table.now.slot) =
    ap (λ (n : ℕ). SUBTICKS_PER_TICK * (n * c.from-2.result * c.from-3.result)) (c.from.ensures ∙ c.self.invariant.apart)
    ∙ ap₂ (λ (a b : ℕ). SUBTICKS_PER_TICK * (slots_apart c.self.inside.table.now * a * b)) c.from-2.ensures c.from-3.ensures in
    let work : c.work_at.result ≡ work_of_state c.in_ok-state.state.now (SUBTICKS_PER_TICK * (slots_apart c.self.inside.table.now * c.args.k * c.self.inside.table.now.slot)) =
    c.work_at.ensures ∙ ap (λ n. work_of_state c.in_ok-state.state.now n) time in
    subst (λ (w : ℕ × ℕ). IsKeptWork c.args.self.now (slots_apart c.args.self.now.table * k) stream w) (sym work)
    (subst (λ (run : KeptRun). IsKeptWork run (slots_apart run.table * k) stream
    (work_of_state c.in_ok-state.state.now (SUBTICKS_PER_TICK * (slots_apart c.self.inside.table.now * c.args.k * c.self.inside.table.now.slot))))
    c.self.view_is
    (IsKeptWork-state c.self.inside k stream c.in_ok-checkpoint.checkpoint.now c.in_ok-state.state.now c.self.invariant there at))

-- ---- the numbers are small
slots-most : (table : Table) (apart k : ℕ) → IsValidTable table → apart ≡ slots_apart table → k < 1024 → apart * k ≤ 2147483648
slots-most table apart k valid is few = mul-le apart k 2097152 1024 (omega (arith, is, apart-most table valid)) (omega (arith, few))

place-few : (run : Inside) (k : ℕ) → KeepsRun run → k < length run.checkpoints.items → k < 1024
place-few run k keeps within = omega (arith, keeps.few, within)

pub overflow_mul-slots : goal.overflow_mul-slots
overflow_mul-slots c =
    let run = c.self.inside in
    let l = c.in_ok-checkpoint.ensures.lookup in
    let few = place-few run c.args.k c.self.invariant (omega (arith, l.3.0, ap (λ (list : List RunState). length list) c.as_slice.ensures.value)) in
    let most = slots-most run.table.now run.apart c.args.k c.self.invariant.valid c.self.invariant.apart few in
    let same : c.from.result * c.from-2.result ≡ c.self.inside.apart * c.args.k = ap₂ (λ (a b : ℕ). a * b) c.from.ensures c.from-2.ensures in
    omega (arith, same, most)

pub overflow_mul-slots-2 : goal.overflow_mul-slots-2
overflow_mul-slots-2 c =
    let run = c.self.inside in
    let l = c.in_ok-checkpoint.ensures.lookup in
    let few = place-few run c.args.k c.self.invariant (omega (arith, l.3.0, ap (λ (list : List RunState). length list) c.as_slice.ensures.value)) in
    let most = slots-most run.table.now run.apart c.args.k c.self.invariant.valid c.self.invariant.apart few in
    let same : c.from.result * c.from-2.result ≡ c.self.inside.apart * c.args.k = ap₂ (λ (a b : ℕ). a * b) c.from.ensures c.from-2.ensures in
    let all = mul-le (c.from.result * c.from-2.result) c.from-3.result 2147483648 40000 (omega (arith, same, most)) (omega (arith, c.from-3.ensures, c.self.invariant.valid.slot_most)) in
    omega (arith, all)

pub overflow_mul-slots-3 : goal.overflow_mul-slots-3
overflow_mul-slots-3 c =
    let run = c.self.inside in
    let l = c.in_ok-checkpoint.ensures.lookup in
    let few = place-few run c.args.k c.self.invariant (omega (arith, l.3.0, ap (λ (list : List RunState). length list) c.as_slice.ensures.value)) in
    let most = slots-most run.table.now run.apart c.args.k c.self.invariant.valid c.self.invariant.apart few in
    let same : c.from.result * c.from-2.result ≡ c.self.inside.apart * c.args.k = ap₂ (λ (a b : ℕ). a * b) c.from.ensures c.from-2.ensures in
    let all = mul-le (c.from.result * c.from-2.result) c.from-3.result 2147483648 40000 (omega (arith, same, most)) (omega (arith, c.from-3.ensures, c.self.invariant.valid.slot_most)) in
    omega (arith, all)
