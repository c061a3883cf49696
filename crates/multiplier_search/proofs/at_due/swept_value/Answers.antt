use Rattle.std.proofs.Common.{◌≡◌, ap, rules, arith, ℤ, pos, ◌*ℤ◌}
use Rattle.std.proofs.lemmas.Int.{ints, to_z-of_z}
use mir.Syntax.{w64}
use mir.Val.{SFits, of_z, to_z}
use Rattle.multiplier_search.proofs.FirstBest.{value-is}
use Rattle.multiplier_search.proofs.at_due.swept_value.Goals as goal

pub returns : goal.returns
returns c = λ table fixed windows due are reached room-is.
    let is = value-is table fixed windows c.args.sweep.now.steps.now due c.args.lambda c.costs-costs.result.paid c.costs-costs.result.spared c.args.capacity c.requires.lambda are
    (c.costs-costs.ensures.paid due reached) (c.costs-costs.ensures.spared due reached) room-is in
    let fits : SFits w64 c.args.capacity = search rules in
    let same : to_z w64 (of_z w64 c.args.capacity) ≡ c.args.capacity = to_z-of_z w64 c.args.capacity fits in
    let product : pos c.args.lambda *ℤ to_z w64 (of_z w64 c.args.capacity) ≡ pos c.args.lambda *ℤ c.args.capacity = ap (λ (z : ℤ). pos c.args.lambda *ℤ z) same in
    let worth = c.worth_of.ensures.value in
    omega (arith, ints)
