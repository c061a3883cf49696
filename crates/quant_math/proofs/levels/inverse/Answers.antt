-- Each step of the code is the step of the formula: `computed_` names what the code has, in 64 bits.
use Rattle.std.proofs.Common.{◌≡◌, ◌≤◌, pos, unsigned_abs, w64, ℤ, ◌+ℤ◌, ◌*ℤ◌, FitsSigned, to_z, of_z, arith, ap, ◌∙◌}
use Rattle.std.specs.Prelude.{int_div}
use Rattle.std.specs.Int.{w16}
use Rattle.std.proofs.lemmas.Int.{ints, to_z-of_z, fits_signed_from_abs}
use Rattle.quant_math.specs.Levels.{coefficient_of, saturation_of, sign_term}
use Rattle.quant_math.proofs.Products.{doubled_bound, weighted_bound, scaled_bound, saturated_quotient}
use Rattle.quant_math.proofs.levels.inverse.Goals as goal
use Rattle.quant_math.proofs.levels.inverse.Goals.{After-from, After-from-2}

abbrev doubled : After-from → ℤ
doubled c = pos 2 *ℤ c.args.level +ℤ c.sign_term.result

abbrev computed_doubled : After-from → ℤ
computed_doubled c = to_z w64 (of_z w64 (pos 2 *ℤ to_z w64 (of_z w64 c.from-level.result))) +ℤ to_z w64 (of_z w64 c.sign_term.result)

doubled_is : (c : After-from) → to_z w64 (of_z w64 (computed_doubled c)) ≡ doubled c
doubled_is c = omega (arith, ints)

doubled_small : (c : After-from) → unsigned_abs (doubled c) ≤ 65537
doubled_small c =
    doubled_bound c.args.level c.sign_term.result c.ranges.level c.sign_term.ensures.lower_bound c.sign_term.ensures.upper_bound

weight_is : (c : After-from) → to_z w64 (of_z w64 c.from.result) ≡ pos c.args.weight
weight_is c = omega (arith, ints)

weighted_fits : (c : After-from) → FitsSigned w64 (doubled c *ℤ pos c.args.weight)
weighted_fits c =
    fits_signed_from_abs w64 (doubled c *ℤ pos c.args.weight)
    (omega (arith, weighted_bound (doubled c) c.args.weight (doubled_small c) (omega arith)))

pub overflow_mul-product-2 : goal.overflow_mul-product-2
overflow_mul-product-2 c = rw (doubled_is c, weight_is c) (weighted_fits c)

abbrev computed_weighted : After-from → ℤ
computed_weighted c = to_z w64 (of_z w64 (computed_doubled c)) *ℤ to_z w64 (of_z w64 c.from.result)

weighted_is : (c : After-from) → to_z w64 (of_z w64 (computed_weighted c)) ≡ doubled c *ℤ pos c.args.weight
weighted_is c = rw (doubled_is c, weight_is c) (to_z-of_z w64 (doubled c *ℤ pos c.args.weight) (weighted_fits c))

-- what is known before the last multiplication, without the scale
abbrev weighted_at : After-from-2 → After-from
weighted_at c = (goal.at.overflow_mul-product-3 c).After-from

abbrev product : After-from-2 → ℤ
product c = doubled (weighted_at c) *ℤ pos c.args.weight *ℤ pos c.args.scale

abbrev computed_product : After-from-2 → ℤ
computed_product c = to_z w64 (of_z w64 (computed_weighted (weighted_at c))) *ℤ to_z w64 (of_z w64 c.from-2.result)

scale_is : (c : After-from-2) → to_z w64 (of_z w64 c.from-2.result) ≡ pos c.args.scale
scale_is c = omega (arith, ints)

product_fits : (c : After-from-2) → FitsSigned w64 (product c)
product_fits c =
    let small : unsigned_abs (product c) ≤ 1095216660225 =
    scaled_bound (doubled (weighted_at c)) c.args.weight c.args.scale (doubled_small (weighted_at c)) (omega arith) (omega arith) in
    fits_signed_from_abs w64 (product c) (omega (arith, small))

pub overflow_mul-product-3 : goal.overflow_mul-product-3
overflow_mul-product-3 c = rw (weighted_is (weighted_at c), scale_is c) (product_fits c)

product_is : (c : After-from-2) → to_z w64 (of_z w64 (computed_product c)) ≡ product c
product_is c = rw (weighted_is (weighted_at c), scale_is c) (to_z-of_z w64 (product c) (product_fits c))

pub returns-clause-value : goal.returns-clause-value
returns-clause-value c =
    let d : After-from-2 = (goal.at.returns-clause-value c).After-from-2 in
    let level : to_z w64 (of_z w64 c.from-level.result) ≡ c.args.level = omega (arith, ints) in
    let term : c.sign_term.result ≡ sign_term c.args.level c.args.intra =
    c.sign_term.ensures.value ∙ ap (λ l. sign_term l c.args.intra) level in
    let narrowed : to_z w16 (of_z w16 (to_z w64 (of_z w64 c.clamp.result))) ≡ c.clamp.result = omega (arith, ints) in
    let clamped : c.clamp.result ≡ saturation_of (int_div (product d) (pos 32)) =
    saturated_quotient c.clamp.result (computed_product d) (product d) c.clamp.ensures.value (product_is d) (product_fits d) in
    let value : saturation_of (int_div (product d) (pos 32)) ≡ coefficient_of c.args.level c.args.weight c.args.scale c.args.intra =
    ap (λ k. saturation_of (int_div ((pos 2 *ℤ c.args.level +ℤ k) *ℤ pos c.args.weight *ℤ pos c.args.scale) (pos 32))) term in
    narrowed ∙ clamped ∙ value
