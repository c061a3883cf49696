use Rattle.std.proofs.Common.{◌≡◌, ◌-◌, ◌/◌, ℕ, ap, ap₂, ◌∙◌, arith}
use Rattle.slot_rule.specs.SlotRun.{last_begun}
use Rattle.slot_rule.proofs.LatestDue.{begun-most}
use Rattle.slot_rule.proofs.distance.slots_apart.Goals as goal

pub overflow_cast-result : goal.overflow_cast-result
overflow_cast-result c =
    let is : c.saturating_sub.result / c.from.result ≡ last_begun c.args.table.now =
    ap₂ (λ (a b : ℕ). a / b) (c.saturating_sub.ensures ∙ ap (λ (n : ℕ). n - 1) c.latest_due.ensures) c.from.ensures in
    omega (arith, is, begun-most c.args.table.now c.requires)

pub overflow_add-result : goal.overflow_add-result
overflow_add-result c =
    let is : c.saturating_sub.result / c.from.result ≡ last_begun c.args.table.now =
    ap₂ (λ (a b : ℕ). a / b) (c.saturating_sub.ensures ∙ ap (λ (n : ℕ). n - 1) c.latest_due.ensures) c.from.ensures in
    omega (arith, is, begun-most c.args.table.now c.requires)

pub overflow_mul-result-2 : goal.overflow_mul-result-2
overflow_mul-result-2 c =
    let is : c.saturating_sub.result / c.from.result ≡ last_begun c.args.table.now =
    ap₂ (λ (a b : ℕ). a / b) (c.saturating_sub.ensures ∙ ap (λ (n : ℕ). n - 1) c.latest_due.ensures) c.from.ensures in
    omega (arith, is, begun-most c.args.table.now c.requires)
