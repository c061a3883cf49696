-- Blocks without coefficients don't differ.
use Rattle.std.proofs.Common.{◌≡◌, ℕ, zero, suc, ◌+◌, ℤ, pos, Some, true, sym, ◌∙◌, ap, ap₂}
use Rattle.std.specs.Prelude.{slice_index_or}
use Rattle.syntax_types.specs.declared.block.Block.{Block}
use Rattle.syntax_types.specs.declared.macroblock.Macroblock.{Macroblock}
use Rattle.syntax_types.specs.declared.picture.PicCoding.{PicCoding}
use Rattle.syntax_types.specs.declared.picture.SeqState.{SeqState}
use Rattle.picture_grammar.specs.Block.{first_place}
use Rattle.picture_grammar.specs.Macroblock.{block_way, no_block}
use Rattle.quant_math.specs.Levels.{coefficient_of}
use Rattle.requantiser.specs.Distortion.{coefficient_of_macroblock, squared_difference}
use Rattle.requantiser.specs.Levels.{scan_place, scale_of, weight_at}
use Rattle.requantiser.specs.Macroblocks.{is_empty_block}
use Rattle.requantiser.specs.Private.Sums.{sum_from}
use Rattle.requantiser.proofs.Blocks.{level_from}
use Rattle.requantiser.proofs.Coefficients.{coefficient_of-zero}
use Rattle.requantiser.proofs.Macroblocks.{empty_items}
use Rattle.requantiser.proofs.Sums.{sum_from-suc, sum_from-none}

-- a sum of zeros
pub sum_from-zeros : (f : ℕ → ℕ) (a n : ℕ) → ((k : ℕ) → f k ≡ 0) → sum_from f a n ≡ 0
sum_from-zeros f a zero zeros = sum_from-none f a
sum_from-zeros f a (suc n) zeros = sum_from-suc f a n ∙ ap₂ (λ x y. x + y) (zeros a) (sum_from-zeros f (a + 1) n zeros)

-- a coefficient of an empty block is 0
pub no_coefficient : (seq : SeqState) (coding : PicCoding) (code : ℕ) (m : Macroblock) (i index : ℕ) → is_empty_block (slice_index_or m.blocks i no_block) ≡ true
    → coefficient_of_macroblock seq coding code (Some m) i index ≡ pos 0
no_coefficient seq coding code m i index empty =
    let at = scan_place coding.alternate_scan index in
    let block : Block = slice_index_or m.blocks i no_block in
    let way = block_way coding m.kind i in
    ap (λ items. coefficient_of (level_from (first_place way) items at) (weight_at seq coding way.intra at) (scale_of coding code) way.intra) (empty_items block.pairs.items empty)
    ∙ coefficient_of-zero (weight_at seq coding way.intra at) (scale_of coding code) way.intra

-- two empty blocks don't differ
pub no_difference : (f g : ℕ → ℤ) → ((place : ℕ) → f place ≡ pos 0) → ((place : ℕ) → g place ≡ pos 0) → 0 ≡ sum_from (λ place. squared_difference (f place) (g place)) 0 64
no_difference f g first second =
    sym (sum_from-zeros (λ place. squared_difference (f place) (g place)) 0 64 (λ place. ap₂ squared_difference (first place) (second place)))
