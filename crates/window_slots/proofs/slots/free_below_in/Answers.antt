use Rattle.std.proofs.Common.{◌≡◌, ◌+◌, ◌-◌, ◌*◌, ◌/◌, ◌≤◌, length, ap, arith}
use Rattle.std.proofs.lemmas.Nat.{le-div}
use Rattle.slot_rule.specs.Timetable.{period}
use Rattle.dual_bounds.proofs.FreeSlots.{free_below-is}
use Rattle.window_slots.specs.LongestSlot.{with_slot}
use Rattle.window_slots.proofs.slots.free_below_in.Goals as goal

pub returns-clause-value : goal.returns-clause-value
returns-clause-value c =
    let table = c.args.table.now in
    let p = c.from-period.result in
    let q = c.args.n / p in
    let p_is : p ≡ period c.args.slot = c.from-period.ensures in
    let some : 27 ≤ 1080000 / c.args.slot = le-div 27 1080000 c.args.slot (omega (arith, c.requires.least)) (omega (arith, c.requires.most, c.requires.valid.slot_most)) in
    let size : 1 + 2 * c.len.result ≡ 2 * length table.programs + 1 = omega (arith, c.len.ensures) in
    let product : q * (p - (1 + 2 * c.len.result)) ≡ q * (p - (2 * length table.programs + 1)) = ap (λ m. q * (p - m)) size in
    omega (arith, product, c.saturating_sub.ensures, free_below-is (with_slot table c.args.slot) c.args.n p p_is (omega (arith, p_is)))
