use Rattle.std.proofs.Common.{◌≡◌, ◌+◌, ◌-◌, ◌*◌, ◌/◌, ◌≤◌, length, ap, arith}
use Rattle.std.proofs.lemmas.Nat.{le-div}
use Rattle.slot_rule.specs.Timetable.{period}
use Rattle.dual_bounds.proofs.FreeSlots.{free_below-is}
use Rattle.dual_bounds.proofs.room.slots_free_below.Goals as goal

pub returns-clause-value : goal.returns-clause-value
returns-clause-value c =
    let table = c.args.table.now in
    let p = c.from-period.result in
    let q = c.args.n / p in
    let p_is : p ≡ period table.slot = c.from-period.ensures in
    let some : 27 ≤ 1080000 / table.slot = le-div 27 1080000 table.slot (omega (arith, c.requires.slot_least)) (omega (arith, c.requires.slot_most)) in
    let size : 1 + 2 * c.len.result ≡ 2 * length table.programs + 1 = omega (arith, c.len.ensures) in
    let product : q * (p - (1 + 2 * c.len.result)) ≡ q * (p - (2 * length table.programs + 1)) = ap (λ m. q * (p - m)) size in
    omega (arith, product, c.saturating_sub.ensures, free_below-is table c.args.n p p_is (omega (arith, p_is)))
