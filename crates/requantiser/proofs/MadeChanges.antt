-- How far the coefficients of a macroblock move: where its blocks are all emptied, and by the code that is in force in the version.
use Rattle.std.proofs.Common.{◌≡◌, ℕ, zero, suc, ◌+◌, ◌*◌, ◌^◌, ◌<◌, ◌≤◌, ℤ, pos, Some, None, List, [], ◌∷◌, Bool, true, false, refl, sym, ◌∙◌, ap, ◌⊎◌, inl, inr, arith, length, unwrap_or}
use Rattle.std.specs.Prelude.{◌==◌, ◌&&◌, ◌||◌, not, slice_index_or, map, if◌then◌else◌}
use Rattle.std.proofs.lemmas.Bool.{cases_lt, eqb-true}
use Rattle.std.proofs.lemmas.Nat.{pow_pos}
use Rattle.std.proofs.lemmas.List.{get_or_past}
use Rattle.std.proofs.lemmas.List.Sums.{AllPass-from_list_all}
use Rattle.std.proofs.lemmas.List.Elements.{All-get_or}
use Rattle.bit_lists.specs.Bits.{number_of}
use Rattle.bit_lists.specs.Fields.{flag}
use Rattle.quant_math.specs.Levels.{coefficient_of}
use Rattle.syntax_types.specs.declared.block.Block.{Block}
use Rattle.syntax_types.specs.declared.block.BlockWay.{BlockWay}
use Rattle.syntax_types.specs.declared.macroblock.Kind.{Kind}
use Rattle.syntax_types.specs.declared.macroblock.Macroblock.{Macroblock}
use Rattle.syntax_types.specs.declared.picture.PicCoding.{PicCoding}
use Rattle.syntax_types.specs.declared.picture.SeqState.{SeqState}
use Rattle.picture_grammar.specs.Block.{first_place}
use Rattle.picture_grammar.specs.Macroblock.{block_way, no_block}
use Rattle.requantiser.specs.Distortion.{coefficient_of_macroblock, difference_of}
use Rattle.requantiser.specs.Levels.{scan_place, scale_of, weight_at}
use Rattle.requantiser.specs.Macroblocks.{is_empty_block, pattern_of}
use Rattle.requantiser.specs.Private.Changes.{coefficient_of_blocks}
use Rattle.requantiser.specs.Private.Walk.{are_empty, with_blocks}
use Rattle.requantiser.proofs.Blocks.{level_from}
use Rattle.requantiser.proofs.Coefficients.{coefficient_of-zero}
use Rattle.requantiser.proofs.Differences.{difference_of-same}
use Rattle.requantiser.proofs.Macroblocks.{empty_items}
use Rattle.requantiser.proofs.Patterns.{bit_of}

pub not_failed : (t : Bool) → not t ≡ false → t ≡ true
not_failed true e = refl
not_failed false e = sym e

-- ---- empty blocks

-- a coefficient of an empty block is 0
none_in_empty : (seq : SeqState) (coding : PicCoding) (kind : Kind) (code : ℕ) (blocks : List Block) (i index : ℕ) → is_empty_block (slice_index_or blocks i no_block) ≡ true
    → coefficient_of_blocks seq coding kind code blocks i index ≡ pos 0
none_in_empty seq coding kind code blocks i index empty =
    let at : ℕ = scan_place coding.alternate_scan index in
    let block : Block = slice_index_or blocks i no_block in
    let way : BlockWay = block_way coding kind i in
    ap (λ items. coefficient_of (level_from (first_place way) items at) (weight_at seq coding way.intra at) (scale_of coding code) way.intra) (empty_items block.pairs.items empty)
    ∙ coefficient_of-zero (weight_at seq coding way.intra at) (scale_of coding code) way.intra

-- each of these blocks is empty, as is what stands behind them
empty_at : (blocks : List Block) → are_empty blocks ≡ true → (i : ℕ) → is_empty_block (slice_index_or blocks i no_block) ≡ true
empty_at blocks empty i = by_place (cases_lt i (length blocks))
  where
    by_place : (i < length blocks) ⊎ (length blocks ≤ i) → is_empty_block (slice_index_or blocks i no_block) ≡ true
    by_place (inl within) = All-get_or (λ (b : Block). is_empty_block b ≡ true) blocks i no_block within (AllPass-from_list_all is_empty_block blocks empty)
    by_place (inr past) = ap is_empty_block (get_or_past blocks i no_block past)

-- blocks that are all emptied are as far as none
pub emptied_changes : (seq : SeqState) (coding : PicCoding) (kind : Kind) (code : ℕ) (f : ℕ → ℕ → ℤ) (blocks : List Block) → are_empty blocks ≡ true
    → difference_of f (coefficient_of_blocks seq coding kind code blocks) ≡ difference_of f (λ i index. pos 0)
emptied_changes seq coding kind code f blocks empty =
    difference_of-same f (coefficient_of_blocks seq coding kind code blocks) f (λ i index. pos 0) (λ i index. refl)
    (λ i index. none_in_empty seq coding kind code blocks i index (empty_at blocks empty i))

-- ---- a pattern of 0

first_is_empty : (empty : Bool) (n rest : ℕ) → flag (not empty) * 2 ^ n + rest ≡ 0 → empty ≡ true
first_is_empty true n rest is = refl
first_is_empty false n rest is = absurd (omega (arith, is, pow_pos n))

rest_is_none : (a b : ℕ) → a + b ≡ 0 → b ≡ 0
rest_is_none a b is = omega (arith, is)

empty_by_pattern : (blocks : List Block) → pattern_of blocks ≡ 0 → (i : ℕ) → is_empty_block (slice_index_or blocks i no_block) ≡ true
unfolding number_of
empty_by_pattern [] none i = refl
empty_by_pattern (block ∷ blocks) none zero = first_is_empty (is_empty_block block) (length (map bit_of blocks)) (pattern_of blocks) none
empty_by_pattern (block ∷ blocks) none (suc i) = empty_by_pattern blocks (rest_is_none (bit_of block * 2 ^ length (map bit_of blocks)) (pattern_of blocks) none) i

-- ---- the code in force

module _ (seq : SeqState) (coding : PicCoding) (mapped before skipped : ℕ) (from : Macroblock) (blocks : List Block) where
  abbrev coefficient_under : ℕ → ℕ → ℕ → ℤ
  coefficient_under code i index = coefficient_of_blocks seq coding from.kind code blocks i index

  by_parts : (has same : Bool) (i index : ℕ) → same ≡ (mapped == before) → (has ≡ false → is_empty_block (slice_index_or blocks i no_block) ≡ true)
      → coefficient_under mapped i index ≡ coefficient_under (unwrap_or (if has && not same then Some mapped else None) before) i index
  by_parts true false i index is empty = refl
  by_parts true true i index is empty = ap (λ code. coefficient_under code i index) (eqb-true mapped before (sym is))
  by_parts false same i index is empty = none_in_empty seq coding from.kind mapped blocks i index (empty refl)
      ∙ sym (none_in_empty seq coding from.kind before blocks i index (empty refl))

  by_intra : (intra : Bool) (i : ℕ) → (intra || not ((if intra then 0 else pattern_of blocks) == 0)) ≡ false → is_empty_block (slice_index_or blocks i no_block) ≡ true
  by_intra true i none = absurd (cc)
  by_intra false i none = empty_by_pattern blocks (eqb-true (pattern_of blocks) 0 (not_failed (pattern_of blocks == 0) none)) i

  -- the coefficients of the macroblock with these blocks are those of the blocks under the mapped code
  under_mapped : (i index : ℕ) → let to : Macroblock = with_blocks coding mapped before skipped from blocks in
      coefficient_under mapped i index ≡ coefficient_of_macroblock seq coding (unwrap_or to.code before) (Some to) i index
  under_mapped i index = by_parts (from.kind.intra || not ((if from.kind.intra then 0 else pattern_of blocks) == 0)) (mapped == before) i index refl (by_intra from.kind.intra i)

  pub made_changes : (f : ℕ → ℕ → ℤ) (to : Macroblock) → to ≡ with_blocks coding mapped before skipped from blocks
      → difference_of f (coefficient_of_blocks seq coding from.kind mapped blocks) ≡ difference_of f (coefficient_of_macroblock seq coding (unwrap_or to.code before) (Some to))
  made_changes f to is =
      difference_of-same f (coefficient_of_blocks seq coding from.kind mapped blocks)
      f (let w : Macroblock = with_blocks coding mapped before skipped from blocks in coefficient_of_macroblock seq coding (unwrap_or w.code before) (Some w))
      (λ i index. refl) under_mapped
      ∙ ap (λ (w : Macroblock). difference_of f (coefficient_of_macroblock seq coding (unwrap_or w.code before) (Some w))) (sym is)
