use Rattle.std.proofs.Common.{◌≡◌, ℕ, ◌<◌, ◌+◌, ◌*◌, ◌/◌, ◌≤◌, suc, ap, ◌∙◌, arith}
use Rattle.std.specs.Prelude.{Option, unwrap_or}
use Rattle.std.proofs.Math.Nat.{add-mul, lt-div-mul-add}
use Rattle.slot_rule.specs.declared.sent.Sent.{Sent}
use Rattle.slot_rule.specs.declared.sent.Sent.TheVariants.{Null}
use Rattle.slot_rule.proofs.IdleRows.{idle_slots-more}
use Rattle.slot_rule.proofs.slot_list.SlotList.fill.Goals as goal

pub loop-n-preserved : goal.loop-n-preserved
loop-n-preserved c =
    let inv = c.loop-n.invariant in (
      suc inv.0,
      omega (arith, inv.1),
      idle_slots-more c.args.timetable.slot c.args.timetable.programs (c.args.last + 1) inv.0 c.loop-n.n c.args.rows c.loop-n.rows c.push.new.self c.unwrap_or.result inv.1 inv.2
          (c.unwrap_or.ensures ∙ ap (λ (o : Option Sent). unwrap_or o Null) c.at.ensures) c.in_ok-push.ensures.ok,
    )

-- the last slot stands before the end of its period
last_within : (last period : ℕ) → 1 ≤ period → last + 1 ≤ (last / period + 1) * period
last_within last period some =
    let below : last < last / period * period + period = lt-div-mul-add some in
    omega (arith, add-mul (last / period) 1 period)

pub returns : goal.returns
returns c =
    let inv = c.loop-n.invariant in
    let period = c.period-period.result in
    let value = c.period-period.ensures.value in
    let slots = (c.args.last / period + 1) * period in
    let within : c.args.last + 1 ≤ slots = last_within c.args.last period c.period-period.ensures.some in
    let upto : c.loop-n.n ≤ slots = c.loop-n.auto.n-end within in
    let ends : slots ≡ c.args.last + 1 + inv.0 = omega (arith, inv.1, c.loop-n-test.false) in
    record { whole = ap (λ p. (c.args.last / p + 1) * p) value; idle = inv.0; ends = ends; rows_are = inv.2 }
