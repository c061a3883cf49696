use Rattle.std.proofs.Common.{◌≡◌, ℕ, ℤ, Some, true, sym, ◌∙◌}
use Rattle.std.specs.Prelude.{slice_index_or}
use Rattle.picture_grammar.specs.Macroblock.{no_block}
use Rattle.requantiser.specs.Distortion.{coefficient_of_macroblock}
use Rattle.requantiser.specs.Macroblocks.{is_empty_block}
use Rattle.requantiser.proofs.Sums.{block_difference-is}
use Rattle.requantiser.proofs.EmptyBlocks.{no_coefficient, no_difference}
use Rattle.requantiser.proofs.difference.difference_in_block.Goals as goal

pub returns-then-is_empty-2-clause-value : goal.returns-then-is_empty-2-clause-value
returns-then-is_empty-2-clause-value c =
    let first : is_empty_block (slice_index_or c.args.a.macroblock.now.blocks c.args.i no_block) ≡ true = sym c.if-is_empty.ensures in
    let second : is_empty_block (slice_index_or c.args.b.macroblock.now.blocks c.args.i no_block) ≡ true = sym c.if-is_empty-2.ensures in
    no_difference (coefficient_of_macroblock c.args.a.picture.seq.now c.args.a.picture.coding.now c.args.a.code (Some c.args.a.macroblock.now) c.args.i)
    (coefficient_of_macroblock c.args.b.picture.seq.now c.args.b.picture.coding.now c.args.b.code (Some c.args.b.macroblock.now) c.args.i)
    (λ place. no_coefficient c.args.a.picture.seq.now c.args.a.picture.coding.now c.args.a.code c.args.a.macroblock.now c.args.i place first)
    (λ place. no_coefficient c.args.b.picture.seq.now c.args.b.picture.coding.now c.args.b.code c.args.b.macroblock.now c.args.i place second)

pub returns-clause-value : goal.returns-clause-value
returns-clause-value c =
    let f : ℕ → ℕ → ℤ = coefficient_of_macroblock c.args.a.picture.seq.now c.args.a.picture.coding.now c.args.a.code (Some c.args.a.macroblock.now) in
    let g : ℕ → ℕ → ℤ = coefficient_of_macroblock c.args.b.picture.seq.now c.args.b.picture.coding.now c.args.b.code (Some c.args.b.macroblock.now) in
    c.squared_differences.ensures.value
    ∙ block_difference-is f g c.args.i c.block_coefficients-first.result c.block_coefficients-second.result
    c.block_coefficients-first.ensures.value c.block_coefficients-second.ensures.value
