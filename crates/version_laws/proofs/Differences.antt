-- How far a macroblock of a version lies from the source's.
use Rattle.std.proofs.Common.{◌≡◌, ℕ, zero, suc, ◌+◌, ◌*◌, ◌<◌, ◌≤◌, ℤ, pos, ◌-ℤ◌, unsigned_abs, ◌⊎◌, inl, inr, Option, Some, None, List, [], Bool, false, sym, ◌∙◌, ap, subst, arith, length}
use Rattle.std.specs.Prelude.{slice_index_or}
use Rattle.std.specs.Int.{int_signum}
use Rattle.std.proofs.Math.Nat.{mul-le-mul}
use Rattle.std.proofs.lemmas.Bool.{cases_eq, cases_lt}
use Rattle.std.proofs.lemmas.List.{get_or_past, get_or-replicate, get_or-set_other, get_or-set_same}
use Rattle.syntax_types.specs.declared.block.Block.{Block}
use Rattle.syntax_types.specs.declared.block.BlockWay.{BlockWay}
use Rattle.syntax_types.specs.declared.block.RunLevel.{RunLevel}
use Rattle.syntax_types.specs.declared.macroblock.Kind.{Kind}
use Rattle.syntax_types.specs.declared.macroblock.Macroblock.{Macroblock}
use Rattle.syntax_types.specs.declared.picture.PicCoding.{PicCoding}
use Rattle.syntax_types.specs.declared.picture.SeqState.{SeqState}
use Rattle.picture_grammar.specs.Block.{first_place}
use Rattle.picture_grammar.specs.Macroblock.{block_way, no_block}
use Rattle.requantiser.specs.Blocks.{AreCoarserBlocks, KeepsFirstLevel, block_of_one, no_blocks}
use Rattle.requantiser.specs.Distortion.{coefficient_of_macroblock, difference_of, squared_difference}
use Rattle.requantiser.specs.Levels.{coefficient_at, level_at, scan_place, scale_of, weight_at}
use Rattle.requantiser.specs.Macroblocks.{HasBlocks, IsCoarserAt}
use Rattle.requantiser.specs.Steps.{IsStep, Step}
use Rattle.requantiser.specs.declared.version_state.VersionState.{VersionState}
use Rattle.requantiser.specs.Private.Sums.{sum_from}
use Rattle.requantiser.proofs.Blocks.{level_here, level_there}
use Rattle.requantiser.proofs.Sums.{block_difference, difference_of-blocks, sum_from-none, sum_from-suc}
use Rattle.version_laws.proofs.Coefficients.{IsAlong, along-coarser, along-signum, along-zero, coefficient-near, coefficients-near}

-- ---- levels

first-zero : (intra : Bool) (way : BlockWay) → way.intra ≡ false → first_place way ≡ 0
first-zero intra way is = ap (λ (b : Bool). let w : BlockWay = record { intra = b; luma = way.luma; vlc_one = way.vlc_one } in first_place w) is

-- the block of the one level that is kept
one-along : (way : BlockWay) (b : Block) (kept place : ℕ) → way.intra ≡ false → (place ≡ kept) ⊎ (place ≡ kept → ⊥)
    → IsAlong (level_at way b place) (level_at way (block_of_one kept (int_signum (level_at way b kept))) place)
one-along way b kept place non_intra (inl here) =
    let pair : RunLevel = record { run = kept; level = int_signum (level_at way b kept) } in
    let at : place ≡ first_place way + kept = omega (arith, here, first-zero way.intra way non_intra) in
    let is : level_at way (block_of_one kept (int_signum (level_at way b kept))) place ≡ int_signum (level_at way b place) =
    level_here (first_place way) place pair [] at ∙ ap (λ (p : ℕ). int_signum (level_at way b p)) (sym here) in
    subst (λ (z : ℤ). IsAlong (level_at way b place) z) (sym is) (along-signum (level_at way b place))
one-along way b kept place non_intra (inr there) =
    let pair : RunLevel = record { run = kept; level = int_signum (level_at way b kept) } in
    let is : level_at way (block_of_one kept (int_signum (level_at way b kept))) place ≡ pos 0 =
    level_there (first_place way) place pair [] (λ e. there (omega (arith, e, first-zero way.intra way non_intra))) in
    subst (λ (z : ℤ). IsAlong (level_at way b place) z) (sym is) (along-zero (level_at way b place))

module _ (seq : SeqState) (coding : PicCoding) (from : Macroblock) where
  abbrev way_of : ℕ → BlockWay
  way_of i = block_way coding from.kind i

  -- the levels of a block are 0 or have the signs of the source's
  abbrev AreAlong : List Block → ℕ → ℕ → Type 0
  AreAlong to i place = IsAlong (level_at (way_of i) (slice_index_or from.blocks i no_block) place) (level_at (way_of i) (slice_index_or to i no_block) place)

  empty-along : (to : List Block) (i place : ℕ) → slice_index_or to i no_block ≡ no_block → AreAlong to i place
  empty-along to i place none =
      subst (λ (b : Block). IsAlong (level_at (way_of i) (slice_index_or from.blocks i no_block) place) (level_at (way_of i) b place)) (sym none)
      (along-zero (level_at (way_of i) (slice_index_or from.blocks i no_block) place))

  none-standing : (i : ℕ) → (i < 6) ⊎ (6 ≤ i) → slice_index_or no_blocks i no_block ≡ no_block
  none-standing i (inl below) = get_or-replicate 6 i no_block no_block below
  none-standing i (inr past) = get_or_past no_blocks i no_block past

  kept-along : (to : List Block) (i place : ℕ) → from.kind.intra ≡ false → (k : KeepsFirstLevel coding from to) → (i ≡ k.index) ⊎ (i ≡ k.index → ⊥) → AreAlong to i place
  kept-along to i place non_intra k (inl here) =
      let block : Block = block_of_one k.place (int_signum (level_at (way_of k.index) (slice_index_or from.blocks k.index no_block) k.place)) in
      let made : slice_index_or to k.index no_block ≡ block =
      ap (λ (bs : List Block). slice_index_or bs k.index no_block) k.kept ∙ get_or-set_same no_blocks k.index block no_block k.within in
      let there : AreAlong to k.index place =
      subst (λ (b : Block). IsAlong (level_at (way_of k.index) (slice_index_or from.blocks k.index no_block) place) (level_at (way_of k.index) b place)) (sym made)
      (one-along (way_of k.index) (slice_index_or from.blocks k.index no_block) k.place place non_intra (cases_eq place k.place)) in
      subst (λ (n : ℕ). AreAlong to n place) (sym here) there
  kept-along to i place non_intra k (inr there) =
      let block : Block = block_of_one k.place (int_signum (level_at (way_of k.index) (slice_index_or from.blocks k.index no_block) k.place)) in
      empty-along to i place (ap (λ (bs : List Block). slice_index_or bs i no_block) k.kept ∙ get_or-set_other no_blocks k.index i block no_block there ∙ none-standing i (cases_lt i 6))

  coarser-along : (code mapped : ℕ) (to : List Block) (i place : ℕ) → AreCoarserBlocks seq coding from.kind code mapped from.blocks to
      → (i < length from.blocks) ⊎ (length from.blocks ≤ i) → AreAlong to i place
  coarser-along code mapped to i place are (inl within) =
      subst (λ (z : ℤ). IsAlong (level_at (way_of i) (slice_index_or from.blocks i no_block) place) z) (sym ((are.1 i within).levels place))
      (along-coarser (level_at (way_of i) (slice_index_or from.blocks i no_block) place) (weight_at seq coding from.kind.intra place) (scale_of coding code) (scale_of coding mapped) from.kind.intra)
  coarser-along code mapped to i place are (inr past) = empty-along to i place (get_or_past to i no_block (omega (arith, are.0, past)))

  blocks-along : (code mapped : ℕ) (to : List Block) (i place : ℕ) → HasBlocks seq coding code mapped from to → AreAlong to i place
  blocks-along code mapped to i place (inl (are, some)) = coarser-along code mapped to i place are (cases_lt i (length from.blocks))
  blocks-along code mapped to i place (inr (emptied, keeps)) = kept-along to i place emptied.non_intra keeps (cases_eq i keeps.index)

  -- ---- coefficients

  near-at : (m : ℕ) (inner : Bool) (code before : ℕ) (made : Option Macroblock) (c d i index : ℕ) → IsCoarserAt seq coding m inner code before (Some from) made
      → unsigned_abs (coefficient_of_macroblock seq coding c (Some from) i index -ℤ coefficient_of_macroblock seq coding d made i index) ≤ 2048
  near-at m inner code before None c d i index at =
      let place : ℕ = scan_place coding.alternate_scan index in
      coefficient-near (level_at (way_of i) (slice_index_or from.blocks i no_block) place) (weight_at seq coding from.kind.intra place) (scale_of coding c) from.kind.intra
  near-at m inner code before (Some to) c d i index (mapped, is_mapped, is, keeps) =
      let place : ℕ = scan_place coding.alternate_scan index in
      let same : block_way coding to.kind i ≡ way_of i = ap (λ (k : Kind). block_way coding k i) is.kind in
      subst (λ (w : BlockWay). unsigned_abs (coefficient_at seq coding (way_of i) c (slice_index_or from.blocks i no_block) place
      -ℤ coefficient_at seq coding w d (slice_index_or to.blocks i no_block) place) ≤ 2048) (sym same)
      (coefficients-near (level_at (way_of i) (slice_index_or from.blocks i no_block) place) (level_at (way_of i) (slice_index_or to.blocks i no_block) place)
      (weight_at seq coding from.kind.intra place) (scale_of coding c) (weight_at seq coding from.kind.intra place) (scale_of coding d) from.kind.intra from.kind.intra
      (blocks-along _ mapped to.blocks i place is.blocks))

-- ---- sums

squared-small : (a b : ℤ) → unsigned_abs (a -ℤ b) ≤ 2048 → squared_difference a b ≤ 4194304
squared-small a b near = mul-le-mul near near

sum_from-most : (f : ℕ → ℕ) (most a n : ℕ) → ((k : ℕ) → f k ≤ most) → sum_from f a n ≤ most * n
sum_from-most f most a zero each = omega (arith, sum_from-none f a)
sum_from-most f most a (suc n) each = omega (arith, sum_from-suc f a n, each a, sum_from-most f most (a + 1) n each)

block-most : (f g : ℕ → ℕ → ℤ) (i : ℕ) → ((i index : ℕ) → unsigned_abs (f i index -ℤ g i index) ≤ 2048) → block_difference f g i ≤ 268435456
block-most f g i near =
    let sum : block_difference f g i ≤ 4194304 * 64 =
    sum_from-most (λ (index : ℕ). squared_difference (f i index) (g i index)) 4194304 0 64 (λ index. squared-small (f i index) (g i index) (near i index)) in
    omega (arith, sum)

difference-most : (f g : ℕ → ℕ → ℤ) → ((i index : ℕ) → unsigned_abs (f i index -ℤ g i index) ≤ 2048) → difference_of f g ≤ 1610612736
difference-most f g near =
    let sum : sum_from (block_difference f g) 0 6 ≤ 268435456 * 6 = sum_from-most (block_difference f g) 268435456 0 6 (λ i. block-most f g i near) in
    omega (arith, sum, difference_of-blocks f g)

-- a step of a version adds no more than 384 squares of 2,048
pub step-most : (seq : SeqState) (coding : PicCoding) (inner : Bool) (before : VersionState) (s : Step) → IsStep seq coding inner before s → s.distortion ≤ 1610612736
step-most seq coding inner before s step =
    let f : ℕ → ℕ → ℤ = coefficient_of_macroblock seq coding s.behind.source_code (Some s.from) in
    let g : ℕ → ℕ → ℤ = coefficient_of_macroblock seq coding s.behind.version_code s.made in
    let most : difference_of f g ≤ 1610612736 = difference-most f g (λ i index. near-at seq coding s.from before.m inner before.source_code before.version_code s.made
    s.behind.source_code s.behind.version_code i index step.at) in
    omega (arith, step.difference, most)
