use Rattle.std.proofs.Common.{◌≡◌, ◌<◌, ◌*◌, ◌/◌, ℕ, List, None, subst, arith}
use Rattle.stream_constants.specs.declared.clock.TheConstants.{SUBTICKS_PER_TICK}
use Rattle.slot_rule.specs.declared.queue_state.QueueState.{QueueState}
use Rattle.slot_rule.specs.Private.Heads.{IsFirst, IsFirstHead, Passes, PassesAt}
use Rattle.slot_rule.proofs.AfterLaws.{small_first}
use Rattle.slot_rule.proofs.IdleLaws.{IsIdle-from}
use Rattle.slot_rule.proofs.idle.idle_until.Goals as goal

pub overflow_mul-head : goal.overflow_mul-head
overflow_mul-head c =
    let first = subst (λ (states : List QueueState). IsFirst Passes states c.in-Some.head.stream c.in-Some.head.packet) c.as_slice-states.ensures.value c.in-Some.ensures in
    omega (arith, small_first c.args.run.now.states.items c.in-Some.head.stream c.in-Some.head.packet c.requires.soon first)

pub returns-clause-idle : goal.returns-clause-idle
returns-clause-idle c m from upto =
    let same : c.as_slice-states.result.now ≡ c.args.run.now.states.items = c.as_slice-states.ensures.value in
    let slot : c.from-slot.result ≡ c.args.slot = c.from-slot.ensures in
    let until : m < c.min-until.result = omega (arith, c.max.ensures) in
    let both : m < c.min-2.result = omega (arith, c.min-until.ensures) in
    let gone : m < c.args.run.now.first_gone / c.from-slot.result = omega (arith, c.min-2.ensures) in
    let low : m < c.min.result = omega (arith, c.min-2.ensures) in
    let overdue : m < c.saturating_sub.result / (SUBTICKS_PER_TICK * c.from-slot.result) = omega (arith, c.min.ensures) in
    let going : m < c.may_go_from.result / (SUBTICKS_PER_TICK * c.from-slot.result) = omega (arith, c.min.ensures) in
    IsIdle-from c.args.run.now c.args.slot m c.saturating_sub.result c.may_go_from.result c.in-Some.head.stream c.in-Some.head.packet (omega (arith, c.requires.least))
    (subst (λ (states : List QueueState). IsFirst Passes states c.in-Some.head.stream c.in-Some.head.packet) same c.in-Some.ensures) c.saturating_sub.ensures
    (subst (λ (states : List QueueState). (start : ℕ) → SUBTICKS_PER_TICK * start < c.may_go_from.result → IsFirstHead (PassesAt start) states None) same c.may_go_from.ensures)
    (subst (λ (k : ℕ). m < c.saturating_sub.result / (SUBTICKS_PER_TICK * k)) slot overdue) (subst (λ (k : ℕ). m < c.may_go_from.result / (SUBTICKS_PER_TICK * k)) slot going)
    (subst (λ (k : ℕ). m < c.args.run.now.first_gone / k) slot gone)
