use Rattle.std.proofs.Common.{◌≡◌, ◌<◌, ℕ, ◌+◌, ◌*◌, ◌/◌, ◌*ℤ◌, min, pos, unsigned_abs, to_z, of_z, w16, refl, SFits, rules, ◌∙◌, ap, ap₂, arith}
use Rattle.std.specs.Int.{int_signum, abs_diff}
use Rattle.std.proofs.lemmas.Int.{ints, to_z-of_z}
use Rattle.requantiser.specs.Private.Sizes.{half_of, limit_of, rounding_of, size_of}
use Rattle.requantiser.proofs.Sizes.{size_by, parts_by, gone_coarser, gone_changed, kept_coarser, kept_changed, kept_some, some_product}
use Rattle.requantiser.proofs.level.change_level.Goals as goal

pub returns-then-parts-step-clause-level : goal.returns-then-parts-step-clause-level
returns-then-parts-step-clause-level c =
    let held : to_z w16 (of_z w16 c.args.level) ≡ c.args.level = omega (arith, ints) in
    let size : c.from-size.result ≡ unsigned_abs c.args.level = omega (arith, ints) in
    let some : 0 < unsigned_abs c.args.level = omega (arith, size, c.if-size-eq0.false) in
    let limit : limit_of (to_z w16 (of_z w16 c.args.level)) ≡ limit_of c.args.level = ap limit_of held in
    let coefficient : c.coefficient_size-coefficient.result ≡ size_of (unsigned_abs c.args.level) c.args.weight c.args.rescaling.from (half_of c.args.rescaling.intra) (limit_of c.args.level) =
    size_by _ _ _ _ _ _ _ _ _ c.coefficient_size-coefficient.ensures.value size c.half-half.ensures.value limit in
    let step : c.from.result * c.from-2.result ≡ c.args.weight * c.args.rescaling.to = ap₂ (λ a b. a * b) c.from.ensures c.from-2.ensures in
    let parts : ℕ = 16 * c.coefficient_size-coefficient.result + c.rounding.result in
    let is : parts ≡ 16 * size_of (unsigned_abs c.args.level) c.args.weight c.args.rescaling.from (half_of c.args.rescaling.intra) (limit_of c.args.level)
    + rounding_of c.args.rescaling.intra (c.args.weight * c.args.rescaling.to) =
    parts_by _ _ _ _ _ _ _ c.args.rescaling.intra coefficient c.rounding.ensures.value c.from.ensures c.from-2.ensures in
    gone_coarser c.args.level c.args.weight c.args.rescaling.from c.args.rescaling.to c.args.rescaling.intra parts some is (omega (arith, c.if-parts-step.true, step))

pub returns-then-parts-step-clause-squared : goal.returns-then-parts-step-clause-squared
returns-then-parts-step-clause-squared c =
    let held : to_z w16 (of_z w16 c.args.level) ≡ c.args.level = omega (arith, ints) in
    let size : c.from-size.result ≡ unsigned_abs c.args.level = omega (arith, ints) in
    let some : 0 < unsigned_abs c.args.level = omega (arith, size, c.if-size-eq0.false) in
    let limit : limit_of (to_z w16 (of_z w16 c.args.level)) ≡ limit_of c.args.level = ap limit_of held in
    let coefficient : c.coefficient_size-coefficient.result ≡ size_of (unsigned_abs c.args.level) c.args.weight c.args.rescaling.from (half_of c.args.rescaling.intra) (limit_of c.args.level) =
    size_by _ _ _ _ _ _ _ _ _ c.coefficient_size-coefficient.ensures.value size c.half-half.ensures.value limit in
    let step : c.from.result * c.from-2.result ≡ c.args.weight * c.args.rescaling.to = ap₂ (λ a b. a * b) c.from.ensures c.from-2.ensures in
    let parts : ℕ = 16 * c.coefficient_size-coefficient.result + c.rounding.result in
    let is : parts ≡ 16 * size_of (unsigned_abs c.args.level) c.args.weight c.args.rescaling.from (half_of c.args.rescaling.intra) (limit_of c.args.level)
    + rounding_of c.args.rescaling.intra (c.args.weight * c.args.rescaling.to) =
    parts_by _ _ _ _ _ _ _ c.args.rescaling.intra coefficient c.rounding.ensures.value c.from.ensures c.from-2.ensures in
    c.square.ensures.value ∙ ap (λ n. n * n) coefficient
    ∙ gone_changed c.args.level c.args.weight c.args.rescaling.from c.args.rescaling.to c.args.rescaling.intra parts some is (omega (arith, c.if-parts-step.true, step))

pub returns-clause-level : goal.returns-clause-level
returns-clause-level c =
    let held : to_z w16 (of_z w16 c.args.level) ≡ c.args.level = omega (arith, ints) in
    let size : c.from-size.result ≡ unsigned_abs c.args.level = omega (arith, ints) in
    let some : 0 < unsigned_abs c.args.level = omega (arith, size, c.if-size-eq0.false) in
    let limit : limit_of (to_z w16 (of_z w16 c.args.level)) ≡ limit_of c.args.level = ap limit_of held in
    let coefficient : c.coefficient_size-coefficient.result ≡ size_of (unsigned_abs c.args.level) c.args.weight c.args.rescaling.from (half_of c.args.rescaling.intra) (limit_of c.args.level) =
    size_by _ _ _ _ _ _ _ _ _ c.coefficient_size-coefficient.ensures.value size c.half-half.ensures.value limit in
    let step : c.from.result * c.from-2.result ≡ c.args.weight * c.args.rescaling.to = ap₂ (λ a b. a * b) c.from.ensures c.from-2.ensures in
    let parts : ℕ = 16 * c.coefficient_size-coefficient.result + c.rounding.result in
    let is : parts ≡ 16 * size_of (unsigned_abs c.args.level) c.args.weight c.args.rescaling.from (half_of c.args.rescaling.intra) (limit_of c.args.level)
    + rounding_of c.args.rescaling.intra (c.args.weight * c.args.rescaling.to) =
    parts_by _ _ _ _ _ _ _ c.args.rescaling.intra coefficient c.rounding.ensures.value c.from.ensures c.from-2.ensures in
    let kept : c.min-kept.result ≡ min (parts / (c.args.weight * c.args.rescaling.to)) (unsigned_abs c.args.level) =
    c.min-kept.ensures ∙ ap₂ min (c.quotient.ensures ∙ ap (λ n. parts / n) step) size in
    let fits : SFits w16 c.with_sign.result = search rules in
    to_z-of_z w16 c.with_sign.result fits ∙ c.with_sign.ensures ∙ ap (λ z. int_signum z *ℤ pos c.min-kept.result) held
    ∙ kept_coarser c.args.level c.args.weight c.args.rescaling.from c.args.rescaling.to c.args.rescaling.intra parts c.min-kept.result some is kept

pub returns-clause-squared : goal.returns-clause-squared
returns-clause-squared c =
    let held : to_z w16 (of_z w16 c.args.level) ≡ c.args.level = omega (arith, ints) in
    let size : c.from-size.result ≡ unsigned_abs c.args.level = omega (arith, ints) in
    let some : 0 < unsigned_abs c.args.level = omega (arith, size, c.if-size-eq0.false) in
    let limit : limit_of (to_z w16 (of_z w16 c.args.level)) ≡ limit_of c.args.level = ap limit_of held in
    let coefficient : c.coefficient_size-coefficient.result ≡ size_of (unsigned_abs c.args.level) c.args.weight c.args.rescaling.from (half_of c.args.rescaling.intra) (limit_of c.args.level) =
    size_by _ _ _ _ _ _ _ _ _ c.coefficient_size-coefficient.ensures.value size c.half-half.ensures.value limit in
    let step : c.from.result * c.from-2.result ≡ c.args.weight * c.args.rescaling.to = ap₂ (λ a b. a * b) c.from.ensures c.from-2.ensures in
    let parts : ℕ = 16 * c.coefficient_size-coefficient.result + c.rounding.result in
    let is : parts ≡ 16 * size_of (unsigned_abs c.args.level) c.args.weight c.args.rescaling.from (half_of c.args.rescaling.intra) (limit_of c.args.level)
    + rounding_of c.args.rescaling.intra (c.args.weight * c.args.rescaling.to) =
    parts_by _ _ _ _ _ _ _ c.args.rescaling.intra coefficient c.rounding.ensures.value c.from.ensures c.from-2.ensures in
    let kept : c.min-kept.result ≡ min (parts / (c.args.weight * c.args.rescaling.to)) (unsigned_abs c.args.level) =
    c.min-kept.ensures ∙ ap₂ min (c.quotient.ensures ∙ ap (λ n. parts / n) step) size in
    let more : 0 < c.min-kept.result =
    kept_some parts (c.args.weight * c.args.rescaling.to) (unsigned_abs c.args.level) c.min-kept.result
    (some_product c.args.weight c.args.rescaling.to c.requires.weighted c.args.rescaling.to_range.0) (omega (arith, c.if-parts-step.false, step)) some kept in
    let other : c.coefficient_size-other.result ≡ size_of c.min-kept.result c.args.weight c.args.rescaling.to (half_of c.args.rescaling.intra) (limit_of c.args.level) =
    size_by _ _ _ _ _ _ _ _ _ c.coefficient_size-other.ensures.value refl c.half-half.ensures.value limit in
    c.square-2.ensures.value ∙ ap (λ n. n * n) (c.abs_diff.ensures ∙ ap₂ abs_diff coefficient other)
    ∙ kept_changed c.args.level c.args.weight c.args.rescaling.from c.args.rescaling.to c.args.rescaling.intra parts c.min-kept.result some more is kept
