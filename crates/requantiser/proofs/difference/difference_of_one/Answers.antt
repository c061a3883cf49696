use Rattle.std.proofs.Common.{◌≡◌, ◌≤◌, ◌<◌, ℕ, ℤ, Some, pos, unsigned_abs, sym, subst, ◌∙◌, arith}
use Rattle.std.specs.Prelude.{replicate}
use Rattle.requantiser.specs.Distortion.{coefficient_of_macroblock}
use Rattle.requantiser.proofs.Coefficients.{all_zeros}
use Rattle.requantiser.proofs.Sums.{block_difference, block_difference-is, difference_of-blocks, one_more_number, no_more_number}
use Rattle.requantiser.proofs.difference.difference_of_one.Goals as goal

pub squared_differences-sum-requires-clause-second : goal.squared_differences-sum-requires-clause-second
squared_differences-sum-requires-clause-second c = λ place. subst (λ (z : ℤ). unsigned_abs z ≤ 2048) (sym (all_zeros 64 place)) (omega arith)

pub loop-i-preserved : goal.loop-i-preserved
loop-i-preserved c =
    let f : ℕ → ℕ → ℤ = coefficient_of_macroblock c.args.a.picture.seq.now c.args.a.picture.coding.now c.args.a.code (Some c.args.a.macroblock.now) in
    let below : c.loop-i.i < 6 = c.loop-i-test.true in
    let is : c.squared_differences-sum.result ≡ block_difference f (λ i index. pos 0) c.loop-i.i =
    c.squared_differences-sum.ensures.value
    ∙ block_difference-is f (λ i index. pos 0) c.loop-i.i c.block_coefficients-coefficients.result
    (replicate 64 (pos 0)) c.block_coefficients-coefficients.ensures.value (λ index below. all_zeros 64 index) in
    record {
      rest = one_more_number (block_difference f (λ i index. pos 0)) c.loop-i.sum c.loop-i.i 6 c.squared_differences-sum.result _ below is c.loop-i.invariant.rest;
      bound = omega (arith, c.squared_differences-sum.ensures.bound, c.loop-i.invariant.bound);
    }

pub returns-clause-value : goal.returns-clause-value
returns-clause-value c =
    let f : ℕ → ℕ → ℤ = coefficient_of_macroblock c.args.a.picture.seq.now c.args.a.picture.coding.now c.args.a.code (Some c.args.a.macroblock.now) in
    no_more_number (block_difference f (λ i index. pos 0)) c.loop-i.sum c.loop-i.i 6 _ c.loop-i-test.false c.loop-i.invariant.rest ∙ difference_of-blocks f (λ i index. pos 0)
