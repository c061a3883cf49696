use Rattle.std.proofs.Common.{◌≡◌, ap, rules, arith, ℤ, pos, ◌*ℤ◌}
use Rattle.std.proofs.lemmas.Int.{ints, to_z-of_z}
use mir.Syntax.{w64}
use mir.Val.{SFits, of_z, to_z}
use Rattle.multiplier_search.proofs.Between.{value-between}
use Rattle.multiplier_search.proofs.at_due.between_value.Goals as goal

pub returns : goal.returns
returns c = λ table fixed windows from due at free room-is.
    let is = value-between table fixed windows from due c.args.lambda c.args.last.now c.args.before.now c.args.free c.costs-costs.result c.costs-early.result c.args.capacity c.requires.lambda
    at free c.costs-costs.ensures.paid c.costs-costs.ensures.spared c.costs-early.ensures.paid c.costs-early.ensures.spared room-is in
    let fits : SFits w64 c.args.capacity = search rules in
    let same : to_z w64 (of_z w64 c.args.capacity) ≡ c.args.capacity = to_z-of_z w64 c.args.capacity fits in
    let product : pos c.args.lambda *ℤ to_z w64 (of_z w64 c.args.capacity) ≡ pos c.args.lambda *ℤ c.args.capacity = ap (λ (z : ℤ). pos c.args.lambda *ℤ z) same in
    let worth = c.worth_of.ensures.value in
    omega (arith, ints)
