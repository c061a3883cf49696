-- What the walk makes of a macroblock stands within its blocks too.
use Rattle.std.proofs.Common.{
  ◌≡◌,
  ℕ,
  zero,
  suc,
  ◌+◌,
  ◌*◌,
  ◌<◌,
  ◌≤◌,
  ℤ,
  pos,
  negsuc,
  unsigned_abs,
  Option,
  Some,
  None,
  List,
  [],
  ◌∷◌,
  Bool,
  true,
  false,
  refl,
  sym,
  ◌∙◌,
  ap,
  subst,
  ◌⊎◌,
  inl,
  inr,
  arith,
  length,
  get_or,
  option_map,
}
use Rattle.std.specs.Prelude.{◌==◌, ◌&&◌, not, slice_index_or, if◌then◌else◌}
use Rattle.std.specs.Int.{int_signum}
use Rattle.std.proofs.lemmas.Bool.{cases_Bool, cases_eq, and_parts, not-true}
use Rattle.std.proofs.lemmas.Int.{unsigned_abs-mul}
use Rattle.std.proofs.lemmas.List.{length-set, get_or-set_same, get_or-set_other, get_or-replicate}
use Rattle.std.proofs.lemmas.List.FromFn.{length-map-range_with_len}
use Rattle.std.proofs.lemmas.Option.{none-some, same_Some}
use Rattle.quant_math.specs.Levels.{coarser_level, coarser_size}
use Rattle.syntax_types.specs.declared.block.Block.{Block}
use Rattle.syntax_types.specs.declared.block.RunLevel.{RunLevel}
use Rattle.syntax_types.specs.declared.macroblock.TheConstants.{BLOCKS}
use Rattle.syntax_types.specs.declared.macroblock.Macroblock.{Macroblock}
use Rattle.syntax_types.specs.declared.picture.PicCoding.{PicCoding}
use Rattle.syntax_types.specs.declared.picture.SeqState.{SeqState}
use Rattle.picture_grammar.specs.Macroblock.{block_way, no_block}
use Rattle.requantiser.specs.Blocks.{no_blocks}
use Rattle.requantiser.specs.Private.Shapes.{FitBlock, IsMeasured}
use Rattle.requantiser.specs.Macroblocks.{is_coded_without_motion}
use Rattle.requantiser.specs.Private.Walk.{
  mapped_code,
  new_level,
  coarsened_pairs,
  coarsened_block,
  coarsened_blocks,
  first_of,
  first_coded,
  kept_blocks,
  are_empty,
  with_blocks,
  made_blocks,
  coarsened_macroblock,
}
use Rattle.requantiser.proofs.Macroblocks.{get_or-coarsened, coarsened_macroblock-made}

-- ---- levels don't grow

signum_small : (level : ℤ) → unsigned_abs (int_signum level) ≤ 1
signum_small (pos n) = omega arith
signum_small (negsuc n) = omega arith

size_small : (level : ℤ) (weight from to : ℕ) (intra : Bool) → coarser_size level weight from to intra ≤ unsigned_abs level
size_small level weight from to true = omega arith
size_small level weight from to false = omega arith

times_one : (a b : ℕ) → a ≤ 1 → a * b ≤ b
times_one zero b small = omega arith
times_one (suc zero) b small = omega arith
times_one (suc (suc n)) b small = absurd (omega arith)

level_small : (level : ℤ) (weight from to : ℕ) (intra : Bool) → unsigned_abs (coarser_level level weight from to intra) ≤ unsigned_abs level
level_small level weight from to intra =
    omega (
      arith,
      unsigned_abs-mul (int_signum level) (pos (coarser_size level weight from to intra)),
      times_one (unsigned_abs (int_signum level)) (coarser_size level weight from to intra) (signum_small level),
      size_small level weight from to intra,
    )

-- ---- the coefficients of a block

coarsened_fit : (new : ℕ → ℤ → ℤ) → ((place : ℕ) (level : ℤ) → unsigned_abs (new place level) ≤ unsigned_abs level)
    → (start place waiting : ℕ) (pairs : List RunLevel) → start + waiting ≡ place → FitBlock place pairs → FitBlock start (coarsened_pairs new place waiting pairs)
coarsened_fit new small start place waiting [] e fit = tt
coarsened_fit new small start place waiting (pair ∷ pairs) e fit =
    by_level (λ w e. coarsened_fit new small start (place + pair.run + 1) w pairs e fit.2)
    (coarsened_fit new small (place + pair.run + 1) (place + pair.run + 1) 0 pairs (omega arith) fit.2) (cases_Bool (unsigned_abs (new (place + pair.run) pair.level) == 0))
  where
    by_level : ((w : ℕ) → start + w ≡ place + pair.run + 1 → FitBlock start (coarsened_pairs new (place + pair.run + 1) w pairs))
        → FitBlock (place + pair.run + 1) (coarsened_pairs new (place + pair.run + 1) 0 pairs)
        → (unsigned_abs (new (place + pair.run) pair.level) == 0 ≡ true) ⊎ (unsigned_abs (new (place + pair.run) pair.level) == 0 ≡ false)
        → FitBlock start (coarsened_pairs new place waiting (pair ∷ pairs))
    by_level waits behind (inl gone) = rw (gone, coarsened_pairs) (waits (waiting + (pair.run + 1)) (omega arith))
    by_level waits behind (inr stays) =
        let same : place + pair.run + 1 ≡ start + (waiting + pair.run) + 1 = omega arith in
        rw (stays, coarsened_pairs) (
          omega (arith, fit.0),
          omega (arith, fit.1, small (place + pair.run) pair.level),
          subst (λ n. FitBlock n (coarsened_pairs new (place + pair.run + 1) 0 pairs)) same behind,
        )

first_fits : (start : ℕ) (items : List RunLevel) → FitBlock start items → let block : Block = first_of (record { dc = None; pairs = record { items = items } }) in FitBlock 0 block.pairs.items
first_fits start [] fit = tt
first_fits start (pair ∷ pairs) fit = (omega (arith, fit.0), omega (arith, signum_small pair.level), tt)

-- ---- the blocks of a macroblock

-- six blocks, whose coefficients stand within them
pub record FitBlocks (intra : Bool) (blocks : List Block) : Type 0 where
  pub six : length blocks ≡ BLOCKS
  pub each : (i : ℕ) → i < BLOCKS → let block : Block = slice_index_or blocks i no_block in FitBlock (if intra then 1 else 0) block.pairs.items

module _ (seq : SeqState) (coding : PicCoding) (code mapped : ℕ) (from : Macroblock) (measured : IsMeasured from) where
  coarsened_blocks-fit : FitBlocks from.kind.intra (coarsened_blocks seq coding from.kind code mapped from.blocks)
  coarsened_blocks-fit = record {
    six = length-map-range_with_len (λ i. coarsened_block seq coding (block_way coding from.kind i) code mapped (slice_index_or from.blocks i no_block)) 0 BLOCKS;
    each = λ i below. subst (λ (b : Block). FitBlock (if from.kind.intra then 1 else 0) b.pairs.items) (sym (get_or-coarsened seq coding from.kind code mapped from.blocks i below))
        (coarsened_fit (new_level seq coding (block_way coding from.kind i) code mapped)
        (λ place level. level_small level _ _ _ from.kind.intra)
        (if from.kind.intra then 1 else 0) (if from.kind.intra then 1 else 0) 0 _ (omega arith) (measured.blocks i below));
  }

  kept_blocks-fit : from.kind.intra ≡ false → FitBlocks from.kind.intra (kept_blocks from)
  kept_blocks-fit non_intra = record {
    six = length-set no_blocks (first_coded from) (first_of (slice_index_or from.blocks (first_coded from) no_block));
    each = λ i below. at i below (cases_eq i (first_coded from));
  }
    where
      at : (i : ℕ) → i < BLOCKS → (i ≡ first_coded from) ⊎ (i ≡ first_coded from → ⊥)
          → let block : Block = slice_index_or (kept_blocks from) i no_block in FitBlock (if from.kind.intra then 1 else 0) block.pairs.items
      at i below (inl here) =
          let first : ℕ = first_coded from in
          let block : Block = slice_index_or from.blocks first no_block in
          let made : get_or (kept_blocks from) i no_block ≡ first_of block =
          ap (λ n. get_or (kept_blocks from) n no_block) here ∙ get_or-set_same no_blocks first (first_of block) no_block (omega arith) in
          let start : ℕ = if from.kind.intra then 1 else 0 in
          let zero_start : 0 ≡ start = sym (ap (λ (intra : Bool). if intra then 1 else 0) non_intra) in
          subst (λ (b : Block). FitBlock start b.pairs.items) (sym made) (subst (λ n. let b : Block = first_of block in FitBlock n b.pairs.items) zero_start
          (first_fits start block.pairs.items (measured.blocks first (omega arith))))
      at i below (inr there) =
          subst (λ (b : Block). FitBlock (if from.kind.intra then 1 else 0) b.pairs.items)
          (sym (get_or-set_other no_blocks (first_coded from) i (first_of (slice_index_or from.blocks (first_coded from) no_block)) no_block there
          ∙ get_or-replicate BLOCKS i no_block no_block below)) tt

  made_fit : (inner : Bool) (blocks : List Block) → made_blocks seq coding inner code mapped from ≡ Some blocks → FitBlocks from.kind.intra blocks
  made_fit inner blocks made = by_test (is_coded_without_motion from.kind && are_empty coarser) inner refl made
    where
      coarser : List Block
      coarser = coarsened_blocks seq coding from.kind code mapped from.blocks

      by_test : (t i : Bool) → t ≡ (is_coded_without_motion from.kind && are_empty coarser)
          → elim t [ false ↦ Some coarser | true ↦ elim i [ true ↦ None | false ↦ Some (kept_blocks from) ] ] ≡ Some blocks → FitBlocks from.kind.intra blocks
      by_test false i test e = subst (FitBlocks from.kind.intra) (same_Some coarser blocks e) coarsened_blocks-fit
      by_test true true test e = absurd (none-some blocks e)
      by_test true false test e =
          let kind = and_parts (is_coded_without_motion from.kind) (are_empty coarser) (sym test) in
          let forward = and_parts (from.kind.pattern && not from.kind.intra && not from.kind.forward) (not from.kind.backward) kind.0 in
          let intra = and_parts (from.kind.pattern && not from.kind.intra) (not from.kind.forward) forward.0 in
          let pattern = and_parts from.kind.pattern (not from.kind.intra) intra.0 in
          subst (FitBlocks from.kind.intra) (same_Some (kept_blocks from) blocks e) (kept_blocks-fit (not-true from.kind.intra pattern.1))

-- what the walk makes of a macroblock
pub made-fits : (seq : SeqState) (coding : PicCoding) (m : ℕ) (inner : Bool) (code before skipped : ℕ) (from to : Macroblock) → IsMeasured from
    → Some to ≡ coarsened_macroblock seq coding m inner code before skipped from → FitBlocks to.kind.intra to.blocks
made-fits seq coding m inner code before skipped from to measured is =
    by_blocks (made_blocks seq coding inner code mapped from) refl
    (is ∙ sym (coarsened_macroblock-made seq coding m inner code mapped before skipped from (made_blocks seq coding inner code mapped from) refl refl))
  where
    mapped : ℕ
    mapped = mapped_code coding.q_scale_type m code

    by_blocks : (made : Option (List Block)) → made ≡ made_blocks seq coding inner code mapped from → Some to ≡ option_map (with_blocks coding mapped before skipped from) made
        → FitBlocks to.kind.intra to.blocks
    by_blocks None made e = absurd (none-some to (sym e))
    by_blocks (Some blocks) made e =
        subst (λ (x : Macroblock). FitBlocks x.kind.intra x.blocks) (sym (same_Some to (with_blocks coding mapped before skipped from blocks) e))
        (made_fit seq coding code mapped from measured inner blocks (sym made))
