-- Sums over the coefficients of a block that stand, and sums over all its places.
use Rattle.std.proofs.Common.{◌≡◌, ℕ, zero, suc, ◌+◌, ◌<◌, ◌≤◌, ℤ, pos, List, [], ◌∷◌, Bool, refl, sym, ◌∙◌, ap, ap₂, ◌⊎◌, inl, inr, arith}
use Rattle.std.specs.Prelude.{slice_index_or, if◌then◌else◌}
use Rattle.std.proofs.lemmas.Bool.{cases_eq}
use Rattle.quant_math.specs.Levels.{coarser_level, coefficient_of}
use Rattle.syntax_types.specs.declared.block.Block.{Block}
use Rattle.syntax_types.specs.declared.block.BlockWay.{BlockWay}
use Rattle.syntax_types.specs.declared.block.RunLevel.{RunLevel}
use Rattle.syntax_types.specs.declared.macroblock.Kind.{Kind}
use Rattle.syntax_types.specs.declared.picture.PicCoding.{PicCoding}
use Rattle.syntax_types.specs.declared.picture.SeqState.{SeqState}
use Rattle.picture_grammar.specs.Block.{first_place}
use Rattle.picture_grammar.specs.Macroblock.{block_way, no_block}
use Rattle.requantiser.specs.Distortion.{squared_difference}
use Rattle.requantiser.specs.Levels.{level_at, scan_place, scale_of, weight_at}
use Rattle.requantiser.specs.Private.Changes.{block_change, change_in, coefficient_of_blocks, new_level_in, pair_changes}
use Rattle.requantiser.specs.Private.Shapes.{FitBlock}
use Rattle.requantiser.specs.Private.Sums.{sum_from}
use Rattle.requantiser.specs.Private.Walk.{coarsened_blocks, coarsened_pairs, new_level}
use Rattle.requantiser.proofs.Blocks.{coarsened_block-is, level_from, level_here, level_there, level_before}
use Rattle.requantiser.proofs.EmptyBlocks.{sum_from-zeros}
use Rattle.requantiser.proofs.Macroblocks.{get_or-coarsened}
use Rattle.requantiser.proofs.Scans.{AreOthers, are_others, index_of}
use Rattle.requantiser.proofs.Sizes.{none_changed}
use Rattle.requantiser.proofs.Sums.{block_difference, sum_from-suc, sum_from-same}

-- ---- over the places

-- a sum of two functions that differ at one number
pub sum_from-one : (f g : ℕ → ℕ) (a n k : ℕ) → a ≤ k → k < a + n → ((j : ℕ) → a ≤ j → j < a + n → (j ≡ k → ⊥) → f j ≡ g j) → g k ≡ 0
    → sum_from f a n ≡ f k + sum_from g a n
sum_from-one f g a zero k low high others none = absurd (omega arith)
sum_from-one f g a (suc n) k low high others none =
    by_place (λ low high others. sum_from-one f g (a + 1) n k low high others none) (cases_eq a k)
  where
    by_place : (a + 1 ≤ k → k < a + 1 + n → ((j : ℕ) → a + 1 ≤ j → j < a + 1 + n → (j ≡ k → ⊥) → f j ≡ g j) → sum_from f (a + 1) n ≡ f k + sum_from g (a + 1) n)
        → (a ≡ k) ⊎ (a ≡ k → ⊥) → sum_from f a (suc n) ≡ f k + sum_from g a (suc n)
    by_place rest (inl here) =
        let behind : sum_from f (a + 1) n ≡ sum_from g (a + 1) n = sum_from-same f g (a + 1) n (λ j above below. others j (omega arith) (omega arith) (λ e. absurd (omega arith))) in
        omega (arith, sum_from-suc f a n, sum_from-suc g a n, behind, none, ap f here, ap g here)
    by_place rest (inr there) =
        let behind : sum_from f (a + 1) n ≡ f k + sum_from g (a + 1) n = rest (omega arith) (omega arith) (λ j above below. others j (omega arith) (omega arith)) in
        omega (arith, sum_from-suc f a n, sum_from-suc g a n, behind, others a (omega arith) (omega arith) there)

-- what a function of the place and its level sums up to over all raster indices is what it does over the coefficients, where
-- it is 0 at the level 0
pub over_pairs : (change : ℕ → ℤ → ℕ) → ((place : ℕ) → change place (pos 0) ≡ 0) → (alternate : Bool) (start : ℕ) (pairs : List RunLevel) → FitBlock start pairs
    → sum_from (λ index. change (scan_place alternate index) (level_from start pairs (scan_place alternate index))) 0 64 ≡ pair_changes change start pairs
over_pairs change none alternate start [] fit = sum_from-zeros _ 0 64 (λ index. none (scan_place alternate index))
over_pairs change none alternate start (pair ∷ pairs) fit =
    let place : ℕ = start + pair.run in
    let k : ℕ = index_of alternate place in
    let here : AreOthers alternate place = are_others alternate place fit.0 in
    let at_k : change (scan_place alternate k) (level_from start (pair ∷ pairs) (scan_place alternate k)) ≡ change place pair.level =
    ap (λ p. change p (level_from start (pair ∷ pairs) p)) here.place ∙ ap (change place) (level_here start place pair pairs refl) in
    let later : change (scan_place alternate k) (level_from (place + 1) pairs (scan_place alternate k)) ≡ 0 =
    ap (λ p. change p (level_from (place + 1) pairs p)) here.place ∙ ap (change place) (level_before (place + 1) place pairs (omega arith)) ∙ none place in
    sum_from-one (λ index. change (scan_place alternate index) (level_from start (pair ∷ pairs) (scan_place alternate index)))
    (λ index. change (scan_place alternate index) (level_from (place + 1) pairs (scan_place alternate index))) 0 64 k (omega arith) (omega (arith, here.index_within))
    (λ j low high there. ap (change (scan_place alternate j))
    (level_there start (scan_place alternate j) pair pairs (λ e. there (sym (are_others alternate j (omega arith)).index ∙ ap (index_of alternate) e))))
    later
    ∙ ap₂ (λ x y. x + y) at_k (over_pairs change none alternate (place + 1) pairs fit.2)

-- ---- a block

-- what depends on the matrix and the scales depends on the codes
pub rescaled_pairs : (seq : SeqState) (coding : PicCoding) (way : BlockWay) (code mapped from to waiting : ℕ) (weights : List ℕ) (pairs : List RunLevel)
    → weights ≡ (if way.intra then seq.intra else seq.non_intra) → from ≡ scale_of coding code → to ≡ scale_of coding mapped
    → coarsened_pairs (new_level_in weights coding.alternate_scan way.intra from to) (first_place way) waiting pairs
    ≡ coarsened_pairs (new_level seq coding way code mapped) (first_place way) waiting pairs
rescaled_pairs seq coding way code mapped from to waiting weights pairs w f t =
    ap (λ ws. coarsened_pairs (new_level_in ws coding.alternate_scan way.intra from to) (first_place way) waiting pairs) w
    ∙ ap₂ (λ a b. coarsened_pairs (new_level_in (if way.intra then seq.intra else seq.non_intra) coding.alternate_scan way.intra a b) (first_place way) waiting pairs) f t

pub rescaled_changes : (seq : SeqState) (coding : PicCoding) (way : BlockWay) (code mapped from to : ℕ) (weights : List ℕ) (pairs : List RunLevel)
    → weights ≡ (if way.intra then seq.intra else seq.non_intra) → from ≡ scale_of coding code → to ≡ scale_of coding mapped
    → pair_changes (change_in weights coding.alternate_scan way.intra from to) (first_place way) pairs ≡ pair_changes (block_change seq coding way code mapped) (first_place way) pairs
rescaled_changes seq coding way code mapped from to weights pairs w f t =
    ap (λ ws. pair_changes (change_in ws coding.alternate_scan way.intra from to) (first_place way) pairs) w
    ∙ ap₂ (λ a b. pair_changes (change_in (if way.intra then seq.intra else seq.non_intra) coding.alternate_scan way.intra a b) (first_place way) pairs) f t

-- the changes of the coefficients of a block are its difference to the coarser one
pub block_changes-are : (seq : SeqState) (coding : PicCoding) (kind : Kind) (code mapped : ℕ) (blocks : List Block) (i : ℕ) → i < 6
    → (let block : Block = slice_index_or blocks i no_block in FitBlock (first_place (block_way coding kind i)) block.pairs.items)
    → (let block : Block = slice_index_or blocks i no_block in pair_changes (block_change seq coding (block_way coding kind i) code mapped) (first_place (block_way coding kind i)) block.pairs.items)
    ≡ block_difference (coefficient_of_blocks seq coding kind code blocks) (coefficient_of_blocks seq coding kind mapped (coarsened_blocks seq coding kind code mapped blocks)) i
block_changes-are seq coding kind code mapped blocks i below fit =
    let block : Block = slice_index_or blocks i no_block in
    let way : BlockWay = block_way coding kind i in
    sym (over_pairs (block_change seq coding way code mapped)
    (λ place. sym (none_changed (pos 0) (weight_at seq coding way.intra place) (scale_of coding code) (scale_of coding mapped) way.intra refl))
    coding.alternate_scan (first_place way) block.pairs.items fit)
    ∙ sum_from-same (λ index. block_change seq coding way code mapped (scan_place coding.alternate_scan index) (level_at way block (scan_place coding.alternate_scan index)))
    (λ index. squared_difference (coefficient_of_blocks seq coding kind code blocks i index)
    (coefficient_of_blocks seq coding kind mapped (coarsened_blocks seq coding kind code mapped blocks) i index)) 0 64
    (λ index low high. ap (squared_difference (coefficient_of_blocks seq coding kind code blocks i index)) (same index))
  where
    same : (index : ℕ) → (let block : Block = slice_index_or blocks i no_block in let way : BlockWay = block_way coding kind i in let place : ℕ = scan_place coding.alternate_scan index in
        coefficient_of (coarser_level (level_at way block place) (weight_at seq coding way.intra place) (scale_of coding code) (scale_of coding mapped) way.intra)
        (weight_at seq coding way.intra place) (scale_of coding mapped) way.intra
        ≡ coefficient_of_blocks seq coding kind mapped (coarsened_blocks seq coding kind code mapped blocks) i index)
    same index =
        let block : Block = slice_index_or blocks i no_block in
        let way : BlockWay = block_way coding kind i in
        let place : ℕ = scan_place coding.alternate_scan index in
        ap (λ (level : ℤ). coefficient_of level (weight_at seq coding way.intra place) (scale_of coding mapped) way.intra)
        (sym ((coarsened_block-is seq coding way code mapped block).levels place)
        ∙ ap (λ (b : Block). level_at way b place) (sym (get_or-coarsened seq coding kind code mapped blocks i below)))
