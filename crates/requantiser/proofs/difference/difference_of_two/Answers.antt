use Rattle.std.proofs.Common.{◌<◌, ℕ, ℤ, Some, ◌∙◌, arith}
use Rattle.requantiser.specs.Distortion.{coefficient_of_macroblock}
use Rattle.requantiser.proofs.Sums.{block_difference, difference_of-blocks, one_more_number, no_more_number}
use Rattle.requantiser.proofs.difference.difference_of_two.Goals as goal

pub loop-i-preserved : goal.loop-i-preserved
loop-i-preserved c =
    let f : ℕ → ℕ → ℤ = coefficient_of_macroblock c.args.a.picture.seq.now c.args.a.picture.coding.now c.args.a.code (Some c.args.a.macroblock.now) in
    let g : ℕ → ℕ → ℤ = coefficient_of_macroblock c.args.b.picture.seq.now c.args.b.picture.coding.now c.args.b.code (Some c.args.b.macroblock.now) in
    let below : c.loop-i.i < 6 = c.loop-i-test.true in
    record {
      rest = one_more_number (block_difference f g) c.loop-i.sum c.loop-i.i 6 c.difference_in_block-sum.result _ below c.difference_in_block-sum.ensures.value c.loop-i.invariant.rest;
      bound = omega (arith, c.difference_in_block-sum.ensures.bound, c.loop-i.invariant.bound);
    }

pub returns-clause-value : goal.returns-clause-value
returns-clause-value c =
    let f : ℕ → ℕ → ℤ = coefficient_of_macroblock c.args.a.picture.seq.now c.args.a.picture.coding.now c.args.a.code (Some c.args.a.macroblock.now) in
    let g : ℕ → ℕ → ℤ = coefficient_of_macroblock c.args.b.picture.seq.now c.args.b.picture.coding.now c.args.b.code (Some c.args.b.macroblock.now) in
    no_more_number (block_difference f g) c.loop-i.sum c.loop-i.i 6 _ c.loop-i-test.false c.loop-i.invariant.rest ∙ difference_of-blocks f g
