-- What the walk makes of a macroblock is what the version has there, and nothing else is.
use Rattle.std.proofs.Common.{
  ◌≡◌,
  ◌≢◌,
  ℕ,
  ◌+◌,
  ◌<◌,
  pos,
  Option,
  Some,
  None,
  List,
  [],
  ◌∷◌,
  Bool,
  true,
  false,
  refl,
  sym,
  ◌∙◌,
  ap,
  ap₂,
  subst,
  ◌⊎◌,
  inl,
  inr,
  arith,
  length,
  unwrap_or,
  get_or,
  option_map,
}
use Rattle.std.specs.Prelude.{◌==◌, ◌&&◌, ◌||◌, not, is_some, slice_index_or, slice_set, find, if◌then◌else◌}
use Rattle.std.specs.Int.{int_signum}
use Rattle.std.specs.List.{range_with_len}
use Rattle.std.proofs.lemmas.Bool.{cases_order, and_parts, and_from, not-true}
use Rattle.std.proofs.lemmas.List.{same_lists, get_or_default, get_or-replicate, get_or-set_same, get_or-set_other}
use Rattle.std.proofs.lemmas.List.Sums.{AllPass-from_list_all}
use Rattle.std.proofs.lemmas.List.Elements.{All-get_or}
use Rattle.std.proofs.lemmas.List.FromFn.{get_or-map-range_with_len, length-map-range_with_len}
use Rattle.quant_math.specs.Scales.{IsMappedCode}
use Rattle.syntax_types.specs.declared.block.Block.{Block}
use Rattle.syntax_types.specs.declared.block.RunLevel.{RunLevel}
use Rattle.syntax_types.specs.declared.macroblock.TheConstants.{BLOCKS}
use Rattle.syntax_types.specs.declared.macroblock.Kind.{Kind}
use Rattle.syntax_types.specs.declared.macroblock.Macroblock.{Macroblock}
use Rattle.syntax_types.specs.declared.picture.PicCoding.{PicCoding}
use Rattle.syntax_types.specs.declared.picture.SeqState.{SeqState}
use Rattle.picture_grammar.specs.Macroblock.{block_way, has_dct_type, is_coded, no_block}
use Rattle.requantiser.specs.Blocks.{IsCoarserBlock, AreCoarserBlocks, KeepsFirstLevel, no_blocks, block_of_one}
use Rattle.requantiser.specs.Levels.{level_at}
use Rattle.requantiser.specs.Macroblocks.{has_coefficients, is_empty_block, pattern_of, IsEmptiedWithoutMotion, HasBlocks, IsCoarserMacroblock, IsCoarserAt, is_coded_without_motion}
use Rattle.requantiser.specs.Private.Shapes.{BeginsWithLevel, HasShape}
use Rattle.requantiser.specs.Private.Walk.{mapped_code, coarsened_block, coarsened_blocks, first_of, kept_blocks, are_empty, with_blocks, made_blocks, coarsened_macroblock}
use Rattle.requantiser.proofs.Blocks.{level_from, level_here, level_there, level_before, coarsened_block-is, one_coarser_block}
use Rattle.requantiser.proofs.MappedCodes.{mapped_code-is, one_mapped}
use Rattle.requantiser.proofs.Places.{BothOrNone}
use Rattle.requantiser.proofs.Ranges.{IsFirst, find-some, find-none}

pub empty_items : (items : List RunLevel) → elim items [ [] ↦ true | pair ∷ pairs ↦ false ] ≡ true → items ≡ []
empty_items [] empty = refl
empty_items (pair ∷ pairs) empty = absurd (cc)

pub empty_block : (block : Block) → block.dc ≡ None → is_empty_block block ≡ true → block ≡ no_block
empty_block block no_dc empty = ap₂ (λ d items. let block : Block = record { dc = d; pairs = record { items = items } } in block) no_dc (empty_items block.pairs.items empty)

module _ (seq : SeqState) (coding : PicCoding) (kind : Kind) (code mapped : ℕ) where
  -- the walk over the block with this index
  abbrev pub one_block : List Block → ℕ → Block
  one_block blocks i = coarsened_block seq coding (block_way coding kind i) code mapped (slice_index_or blocks i no_block)

  pub get_or-coarsened : (blocks : List Block) (i : ℕ) → i < BLOCKS → get_or (coarsened_blocks seq coding kind code mapped blocks) i no_block ≡ one_block blocks i
  get_or-coarsened blocks i below = get_or-map-range_with_len (one_block blocks) 0 BLOCKS i i no_block below (omega arith)

  -- blocks that are each what the walk makes are all that it makes
  pub all_blocks : (blocks made : List Block) → length made ≡ BLOCKS → ((k : ℕ) → k < BLOCKS → get_or made k no_block ≡ one_block blocks k)
      → made ≡ coarsened_blocks seq coding kind code mapped blocks
  all_blocks blocks made six each = same_lists made (coarsened_blocks seq coding kind code mapped blocks) (six ∙ sym (length-map-range_with_len (one_block blocks) 0 BLOCKS))
      (λ k d below. get_or_default made k d no_block below ∙ each k (omega (arith, six)) ∙ sym (get_or-coarsened blocks k (omega (arith, six)))
      ∙ get_or_default (coarsened_blocks seq coding kind code mapped blocks) k no_block d (omega (arith, six, length-map-range_with_len (one_block blocks) 0 BLOCKS)))

  -- one more block is made
  pub one_more_block : (blocks before : List Block) (i : ℕ) (block d : Block) → length before ≡ BLOCKS → length blocks ≡ BLOCKS → i < BLOCKS
      → block ≡ coarsened_block seq coding (block_way coding kind i) code mapped (get_or blocks i d)
      → ((k : ℕ) → k < i → get_or before k no_block ≡ one_block blocks k)
      → (k : ℕ) → k < i + 1 → get_or (slice_set before i block) k no_block ≡ one_block blocks k
  one_more_block blocks before i block d six six' within is each k below = by_place (cases_order k i)
    where
      by_place : (k ≡ i) ⊎ ((k < i) ⊎ (i < k)) → get_or (slice_set before i block) k no_block ≡ one_block blocks k
      by_place (inl here) =
          ap (λ n. get_or (slice_set before i block) n no_block) here ∙ get_or-set_same before i block no_block (omega (arith, six))
          ∙ is ∙ ap (coarsened_block seq coding (block_way coding kind i) code mapped) (get_or_default blocks i d no_block (omega (arith, six')))
          ∙ ap (one_block blocks) (sym here)
      by_place (inr (inl before_it)) = get_or-set_other before i k block no_block (λ e. absurd (omega arith)) ∙ each k before_it
      by_place (inr (inr behind)) = absurd (omega arith)

  -- the walk over the blocks makes the coarser blocks
  pub coarsened_blocks-are : (blocks : List Block) → length blocks ≡ BLOCKS
      → AreCoarserBlocks seq coding kind code mapped blocks (coarsened_blocks seq coding kind code mapped blocks)
  coarsened_blocks-are blocks six = (
    length-map-range_with_len (one_block blocks) 0 BLOCKS ∙ sym six,
    λ i below. subst (IsCoarserBlock seq coding (block_way coding kind i) code mapped (slice_index_or blocks i no_block))
        (sym (get_or-coarsened blocks i (omega arith)))
        (coarsened_block-is seq coding (block_way coding kind i) code mapped (slice_index_or blocks i no_block)),
  )

  -- no other blocks are
  pub same_blocks : (from a b : List Block) → AreCoarserBlocks seq coding kind code mapped from a → AreCoarserBlocks seq coding kind code mapped from b → a ≡ b
  same_blocks from a b p q = same_lists a b (p.0 ∙ sym q.0) (λ k d below.
      get_or_default a k d no_block below
      ∙ one_coarser_block seq coding (block_way coding kind k) code mapped (get_or from k no_block) (get_or a k no_block) (get_or b k no_block)
      (p.1 k (omega (arith, p.0))) (q.1 k (omega (arith, p.0)))
      ∙ sym (get_or_default b k d no_block (omega (arith, p.0, q.0))))

  -- where all blocks are empty, they are no blocks
  pub empty_blocks : (blocks : List Block) → ((i : ℕ) → i < BLOCKS → let block : Block = slice_index_or blocks i no_block in block.dc ≡ None)
      → are_empty (coarsened_blocks seq coding kind code mapped blocks) ≡ true → coarsened_blocks seq coding kind code mapped blocks ≡ no_blocks
  empty_blocks blocks no_dc empty = same_lists (coarsened_blocks seq coding kind code mapped blocks) no_blocks (length-map-range_with_len (one_block blocks) 0 BLOCKS)
      (λ k d below. let within : k < BLOCKS = omega (arith, length-map-range_with_len (one_block blocks) 0 BLOCKS) in
      get_or_default (coarsened_blocks seq coding kind code mapped blocks) k d no_block below
      ∙ empty_block (get_or (coarsened_blocks seq coding kind code mapped blocks) k no_block)
      (ap (λ b. let block : Block = b in block.dc) (get_or-coarsened blocks k within) ∙ no_dc k within)
      (All-get_or (λ b. is_empty_block b ≡ true) (coarsened_blocks seq coding kind code mapped blocks) k no_block below
      (AllPass-from_list_all is_empty_block (coarsened_blocks seq coding kind code mapped blocks) empty))
      ∙ sym (get_or-replicate BLOCKS k no_block d within))

-- ---- the coefficient that is kept

-- the first coefficient of a block that begins with a level
pub record IsFirstLevel (start : ℕ) (items : List RunLevel) (place : ℕ) : Type 0 where
  pub level : level_from start items place ≢ pos 0
  pub zeros_before : (p : ℕ) → p < place → level_from start items p ≡ pos 0

-- there is one, and it is what the walk keeps
first_level : (items : List RunLevel) → BeginsWithLevel items
    → (place : ℕ) × IsFirstLevel 0 items place × (first_of (record { dc = None; pairs = record { items = items } }) ≡ block_of_one place (int_signum (level_from 0 items place)))
first_level [] none = absurd none
first_level (pair ∷ pairs) level = (
  pair.run,
  record {
    level = λ zero. level (sym here ∙ zero);
    zeros_before = λ p below. level_there 0 p pair pairs (λ e. absurd (omega arith)) ∙ level_before (0 + pair.run + 1) p pairs (omega arith);
  },
  ap (λ level. block_of_one pair.run (int_signum level)) (sym here),
)
  where
    here : level_from 0 (pair ∷ pairs) pair.run ≡ pair.level
    here = level_here 0 pair.run pair pairs (omega arith)

-- there is only one
one_first_level : (start : ℕ) (items : List RunLevel) (a b : ℕ) → IsFirstLevel start items a → IsFirstLevel start items b → a ≡ b
one_first_level start items a b p q = by_order (cases_order a b)
  where
    by_order : (a ≡ b) ⊎ ((a < b) ⊎ (b < a)) → a ≡ b
    by_order (inl same) = same
    by_order (inr (inl below)) = absurd (p.level (q.zeros_before a below))
    by_order (inr (inr above)) = absurd (q.level (p.zeros_before b above))

module _ (coding : PicCoding) (from : Macroblock) (non_intra : from.kind.intra ≡ false) where
  -- no DC coefficient stands first
  from_start : (index place : ℕ) → let block : Block = slice_index_or from.blocks index no_block in
      level_at (block_way coding from.kind index) block place ≡ level_from 0 block.pairs.items place
  from_start index place = let block : Block = slice_index_or from.blocks index no_block in
      ap (λ intra. level_from (if intra then 1 else 0) block.pairs.items place) non_intra

  first_level_of : (index place : ℕ)
      → level_at (block_way coding from.kind index) (slice_index_or from.blocks index no_block) place ≢ pos 0
      → ((p : ℕ) → p < place → level_at (block_way coding from.kind index) (slice_index_or from.blocks index no_block) p ≡ pos 0)
      → let block : Block = slice_index_or from.blocks index no_block in IsFirstLevel 0 block.pairs.items place
  first_level_of index place level zeros = record {
    level = λ zero. level (from_start index place ∙ zero);
    zeros_before = λ p below. sym (from_start index p) ∙ zeros p below;
  }

  -- the walk keeps the first coefficient
  kept_at : HasShape from → (index : ℕ) → IsFirst (λ i. is_coded from.kind from.pattern i) 0 BLOCKS index
      → KeepsFirstLevel coding from (slice_set no_blocks index (first_of (slice_index_or from.blocks index no_block)))
  kept_at shape index first =
      let block : Block = slice_index_or from.blocks index no_block in
      let found = first_level block.pairs.items (shape.begins non_intra index first.below first.passes) in
      let same : block ≡ record { dc = None; pairs = record { items = block.pairs.items } } = ap
      (λ d. let b : Block = record { dc = d; pairs = record { items = block.pairs.items } } in b) (shape.no_dc non_intra index first.below) in
      record {
        index = index;
        place = found.0;
        within = first.below;
        coded = first.passes;
        none_coded_before = λ i below. first.none_before i (omega arith) below;
        level = λ zero. found.1.level (sym (from_start index found.0) ∙ zero);
        zeros_before = λ p below. from_start index p ∙ found.1.zeros_before p below;
        kept = ap (λ b. slice_set no_blocks index (first_of b)) same
            ∙ ap (λ b. slice_set no_blocks index b) (found.2 ∙ ap (λ level. block_of_one found.0 (int_signum level)) (sym (from_start index found.0)));
      }

  pub kept_blocks-are : HasShape from → from.kind.pattern ≡ true → KeepsFirstLevel coding from (kept_blocks from)
  kept_blocks-are shape has_pattern = by_search (find (λ i. is_coded from.kind from.pattern i) (range_with_len 0 BLOCKS)) refl
    where
      by_search : (found : Option ℕ) → found ≡ find (λ i. is_coded from.kind from.pattern i) (range_with_len 0 BLOCKS)
          → KeepsFirstLevel coding from (slice_set no_blocks (unwrap_or found 0) (first_of (slice_index_or from.blocks (unwrap_or found 0) no_block)))
      by_search None is =
          let some = shape.some_coded non_intra has_pattern in
          let e : true ≡ false = sym some.2 ∙ find-none (λ i. is_coded from.kind from.pattern i) 0 BLOCKS (sym is) some.0 (omega arith) (omega (arith, some.1)) in
          absurd (cc)
      by_search (Some index) is = kept_at shape index (find-some (λ i. is_coded from.kind from.pattern i) 0 BLOCKS index (sym is))

  -- and nothing else is kept
  pub same_kept : (a b : List Block) → KeepsFirstLevel coding from a → KeepsFirstLevel coding from b → a ≡ b
  same_kept a b p q = by_order (cases_order p.index q.index)
    where
      at_one : (index : ℕ) → p.index ≡ index → q.index ≡ index → a ≡ b
      at_one index here there =
          let block : Block = slice_index_or from.blocks index no_block in
          let first_p : IsFirstLevel 0 block.pairs.items p.place =
          subst (λ i. let block : Block = slice_index_or from.blocks i no_block in IsFirstLevel 0 block.pairs.items p.place) here (first_level_of p.index p.place p.level p.zeros_before) in
          let first_q : IsFirstLevel 0 block.pairs.items q.place =
          subst (λ i. let block : Block = slice_index_or from.blocks i no_block in IsFirstLevel 0 block.pairs.items q.place) there (first_level_of q.index q.place q.level q.zeros_before) in
          let place : p.place ≡ q.place = one_first_level 0 block.pairs.items p.place q.place first_p first_q in
          p.kept
          ∙ ap₂ (λ i place. slice_set no_blocks i (block_of_one place (int_signum (level_at (block_way coding from.kind i) (slice_index_or from.blocks i no_block) place)))) (here ∙ sym there) place
          ∙ sym q.kept

      by_order : (p.index ≡ q.index) ⊎ ((p.index < q.index) ⊎ (q.index < p.index)) → a ≡ b
      by_order (inl same) = at_one q.index same refl
      by_order (inr (inl below)) = let e : true ≡ false = sym p.coded ∙ q.none_coded_before p.index below in absurd (cc)
      by_order (inr (inr above)) = let e : true ≡ false = sym q.coded ∙ p.none_coded_before q.index above in absurd (cc)

-- ---- a macroblock

-- a macroblock that is coded in the coarser picture is what the walk makes of its blocks
pub coarser-is : (seq : SeqState) (coding : PicCoding) (in_force mapped before : ℕ) (from to : Macroblock) → IsCoarserMacroblock seq coding in_force mapped before from to
    → to ≡ with_blocks coding mapped before to.skipped_before from to.blocks
coarser-is seq coding in_force mapped before from to p =
    ap (λ x. record to { motion_type = x }) p.motion_type
    ∙ ap (λ x. record to { motion_type = from.motion_type; forward = x }) p.forward
    ∙ ap (λ x. record to { motion_type = from.motion_type; forward = from.forward; backward = x }) p.backward
    ∙ ap (λ x. record to { motion_type = from.motion_type; forward = from.forward; backward = from.backward; pattern = x }) p.pattern
    ∙ ap (λ x. record to { motion_type = from.motion_type; forward = from.forward; backward = from.backward; pattern = pattern; code = x }) code
    ∙ ap (λ x. record to { motion_type = from.motion_type; forward = from.forward; backward = from.backward; pattern = pattern; code = result.code; kind = x }) kind
    ∙ ap (λ x. record to { motion_type = from.motion_type; forward = from.forward; backward = from.backward; pattern = pattern; code = result.code; kind = result.kind; field_dct = x })
    (p.field_dct ∙ ap (λ k. has_dct_type coding k && from.field_dct) kind)
  where
    result : Macroblock
    result = with_blocks coding mapped before to.skipped_before from to.blocks

    pattern : ℕ
    pattern = if from.kind.intra then 0 else pattern_of to.blocks

    code : to.code ≡ (with_blocks coding mapped before to.skipped_before from to.blocks).code
    code = p.code
        ∙ ap (λ k. if has_coefficients k && not (mapped == before) then Some mapped else None) p.kind
        ∙ ap (λ n. if (from.kind.intra || not (n == 0)) && not (mapped == before) then Some mapped else None) p.pattern

    kind : to.kind ≡ (with_blocks coding mapped before to.skipped_before from to.blocks).kind
    kind = p.kind ∙ ap₂ (λ c n. let k : Kind = record from.kind { quant = is_some c; pattern = not (n == 0) } in k) code p.pattern

-- what the walk makes of blocks that may stand there is that macroblock
pub with_blocks-is : (seq : SeqState) (coding : PicCoding) (in_force mapped before skipped : ℕ) (from : Macroblock) (blocks : List Block) → HasBlocks seq coding in_force mapped from blocks
    → IsCoarserMacroblock seq coding in_force mapped before from (with_blocks coding mapped before skipped from blocks)
with_blocks-is seq coding in_force mapped before skipped from blocks has = record {
  motion_type = refl;
  forward = refl;
  backward = refl;
  blocks = has;
  pattern = refl;
  kind = refl;
  field_dct = refl;
  code = refl;
}

-- the blocks of a coarser macroblock are determined
pub same_coded_blocks : (seq : SeqState) (coding : PicCoding) (in_force mapped : ℕ) (from : Macroblock) (a b : List Block)
    → HasBlocks seq coding in_force mapped from a → HasBlocks seq coding in_force mapped from b → a ≡ b
same_coded_blocks seq coding in_force mapped from a b (inl p) (inl q) = same_blocks seq coding from.kind in_force mapped from.blocks a b p.0 q.0
same_coded_blocks seq coding in_force mapped from a b (inl p) (inr q) = absurd (p.1 q.0)
same_coded_blocks seq coding in_force mapped from a b (inr p) (inl q) = absurd (q.1 p.0)
same_coded_blocks seq coding in_force mapped from a b (inr p)
    (inr q) = let emptied : IsEmptiedWithoutMotion seq coding in_force mapped from = p.0 in same_kept coding from emptied.non_intra a b p.1 q.1

abbrev pub behind_skipped : ℕ → Macroblock → Macroblock
behind_skipped skipped m = record m { skipped_before = skipped }

-- two macroblocks are equal but for the skipped ones before them
abbrev pub SameButSkipped : Macroblock → Macroblock → Type 0
SameButSkipped a b = (skipped : ℕ) → behind_skipped skipped a ≡ behind_skipped skipped b

without_motion : (pattern intra forward backward : Bool) → pattern ≡ true → intra ≡ false → forward ≡ false → backward ≡ false → (pattern && not intra && not forward && not backward) ≡ true
without_motion pattern intra forward backward p i f b = rw (p, i, f, b) refl

module _ (seq : SeqState) (coding : PicCoding) (m : ℕ) (inner : Bool) (code before : ℕ) where
  -- the walk's test
  emptied_by_test : (mapped : ℕ) (from : Macroblock) → HasShape from
      → (is_coded_without_motion from.kind && are_empty (coarsened_blocks seq coding from.kind (unwrap_or from.code code) mapped from.blocks)) ≡ true
      → IsEmptiedWithoutMotion seq coding (unwrap_or from.code code) mapped from
  emptied_by_test mapped from shape passes =
      let kind_and_blocks = and_parts (is_coded_without_motion from.kind) (are_empty (coarsened_blocks seq coding from.kind (unwrap_or from.code code) mapped from.blocks)) passes in
      let forward = and_parts (from.kind.pattern && not from.kind.intra && not from.kind.forward) (not from.kind.backward) kind_and_blocks.0 in
      let intra = and_parts (from.kind.pattern && not from.kind.intra) (not from.kind.forward) forward.0 in
      let pattern = and_parts from.kind.pattern (not from.kind.intra) intra.0 in
      let non_intra : from.kind.intra ≡ false = not-true from.kind.intra pattern.1 in
      record {
        non_intra = non_intra;
        coded = pattern.0;
        no_forward = not-true from.kind.forward intra.1;
        no_backward = not-true from.kind.backward forward.1;
        emptied = subst (AreCoarserBlocks seq coding from.kind (unwrap_or from.code code) mapped from.blocks)
            (empty_blocks seq coding from.kind (unwrap_or from.code code) mapped from.blocks (shape.no_dc non_intra) kind_and_blocks.1)
            (coarsened_blocks-are seq coding from.kind (unwrap_or from.code code) mapped from.blocks shape.six);
      }

  passes_if_emptied : (mapped : ℕ) (from : Macroblock) → length from.blocks ≡ BLOCKS → IsEmptiedWithoutMotion seq coding (unwrap_or from.code code) mapped from
      → (is_coded_without_motion from.kind && are_empty (coarsened_blocks seq coding from.kind (unwrap_or from.code code) mapped from.blocks)) ≡ true
  passes_if_emptied mapped from six emptied =
      let same : coarsened_blocks seq coding from.kind (unwrap_or from.code code) mapped from.blocks ≡ no_blocks =
      same_blocks seq coding from.kind (unwrap_or from.code code) mapped from.blocks _ _
      (coarsened_blocks-are seq coding from.kind (unwrap_or from.code code) mapped from.blocks six) emptied.emptied in
      and_from (is_coded_without_motion from.kind) (are_empty (coarsened_blocks seq coding from.kind (unwrap_or from.code code) mapped from.blocks))
      (without_motion from.kind.pattern from.kind.intra from.kind.forward from.kind.backward emptied.coded emptied.non_intra emptied.no_forward emptied.no_backward)
      (ap are_empty same)

  -- the walk makes what stands there
  pub coarsened_macroblock-is : (skipped : ℕ) (from : Macroblock) → HasShape from
      → IsCoarserAt seq coding m inner code before (Some from) (coarsened_macroblock seq coding m inner (unwrap_or from.code code) before skipped from)
  coarsened_macroblock-is skipped from shape = by_test (is_coded_without_motion from.kind && are_empty blocks) inner refl refl
    where
      mapped : ℕ
      mapped = mapped_code coding.q_scale_type m (unwrap_or from.code code)

      blocks : List Block
      blocks = coarsened_blocks seq coding from.kind (unwrap_or from.code code) mapped from.blocks

      is_mapped : IsMappedCode coding.q_scale_type (unwrap_or from.code code) m mapped
      is_mapped = mapped_code-is coding.q_scale_type m (unwrap_or from.code code)

      by_test : (t i : Bool) → t ≡ (is_coded_without_motion from.kind && are_empty blocks) → i ≡ inner
          → IsCoarserAt seq coding m inner code before (Some from) (elim t [
            | false ↦ Some (with_blocks coding mapped before skipped from blocks)
            | true ↦ elim i [ true ↦ None | false ↦ Some (with_blocks coding mapped before skipped from (kept_blocks from)) ]
          ])
      by_test false i test is =
          let stays : ¬ IsEmptiedWithoutMotion seq coding (unwrap_or from.code code) mapped from =
          λ emptied. let e : true ≡ false = sym (passes_if_emptied mapped from shape.six emptied) ∙ sym test in absurd (cc) in (
            mapped,
            is_mapped,
            with_blocks-is seq coding (unwrap_or from.code code) mapped before skipped from blocks
                (inl (coarsened_blocks-are seq coding from.kind (unwrap_or from.code code) mapped from.blocks shape.six, stays)),
            λ emptied. absurd (stays emptied),
          )
      by_test true true test is = (mapped, is_mapped, emptied_by_test mapped from shape (sym test), sym is)
      by_test true false test is =
          let emptied : IsEmptiedWithoutMotion seq coding (unwrap_or from.code code) mapped from = emptied_by_test mapped from shape (sym test) in (
            mapped,
            is_mapped,
            with_blocks-is seq coding (unwrap_or from.code code) mapped before skipped from (kept_blocks from)
                (inr (emptied, kept_blocks-are coding from emptied.non_intra shape emptied.coded)),
            λ e. sym is,
          )

  -- and nothing else stands there
  pub one_coarser_at : (from to other : Option Macroblock) → IsCoarserAt seq coding m inner code before from to → IsCoarserAt seq coding m inner code before from other
      → BothOrNone (λ m. m.skipped_before) SameButSkipped to other
  one_coarser_at None None None p q = tt
  one_coarser_at None None (Some b) p q = q
  one_coarser_at None (Some a) other p q = absurd p
  one_coarser_at (Some from) None None p q = tt
  one_coarser_at (Some from) None (Some b) (mapped, is_mapped, emptied, inner) (other, is_other, coarser, not_inner) =
      let same : mapped ≡ other = one_mapped coding.q_scale_type m (unwrap_or from.code code) mapped other is_mapped is_other in
      let e : true ≡ false = sym inner ∙ not_inner (subst (λ c. IsEmptiedWithoutMotion seq coding (unwrap_or from.code code) c from) same emptied) in absurd (cc)
  one_coarser_at (Some from) (Some a) None (mapped, is_mapped, coarser, not_inner) (other, is_other, emptied, inner) =
      let same : other ≡ mapped = one_mapped coding.q_scale_type m (unwrap_or from.code code) other mapped is_other is_mapped in
      let e : true ≡ false = sym inner ∙ not_inner (subst (λ c. IsEmptiedWithoutMotion seq coding (unwrap_or from.code code) c from) same emptied) in absurd (cc)
  one_coarser_at (Some from) (Some a) (Some b) (mapped, is_mapped, coarser, not_inner) (other, is_other, coarser', not_inner') =
      let same : other ≡ mapped = one_mapped coding.q_scale_type m (unwrap_or from.code code) other mapped is_other is_mapped in
      let again : IsCoarserMacroblock seq coding (unwrap_or from.code code) mapped before from b =
      subst (λ c. IsCoarserMacroblock seq coding (unwrap_or from.code code) c before from b) same coarser' in
      let first : IsCoarserMacroblock seq coding (unwrap_or from.code code) mapped before from a = coarser in
      let blocks : a.blocks ≡ b.blocks = same_coded_blocks seq coding (unwrap_or from.code code) mapped from a.blocks b.blocks first.blocks again.blocks in
      λ skipped.
      ap (behind_skipped skipped) (coarser-is seq coding (unwrap_or from.code code) mapped before from a first)
      ∙ ap (λ blocks. with_blocks coding mapped before skipped from blocks) blocks
      ∙ sym (ap (behind_skipped skipped) (coarser-is seq coding (unwrap_or from.code code) mapped before from b again))

-- the walk over a macroblock makes its blocks, then what it says
pub coarsened_macroblock-made : (seq : SeqState) (coding : PicCoding) (m : ℕ) (inner : Bool) (code mapped before skipped : ℕ) (from : Macroblock) (made : Option (List Block))
    → mapped ≡ mapped_code coding.q_scale_type m code → made ≡ made_blocks seq coding inner code mapped from
    → option_map (with_blocks coding mapped before skipped from) made ≡ coarsened_macroblock seq coding m inner code before skipped from
coarsened_macroblock-made seq coding m inner code mapped before skipped from made is made_is =
    ap (option_map (with_blocks coding mapped before skipped from)) made_is
    ∙ ap (λ n. option_map (with_blocks coding n before skipped from) (made_blocks seq coding inner code n from)) is
    ∙ by_test (is_coded_without_motion from.kind && are_empty blocks) inner refl refl
  where
    blocks : List Block
    blocks = coarsened_blocks seq coding from.kind code (mapped_code coding.q_scale_type m code) from.blocks

    with : List Block → Macroblock
    with bs = with_blocks coding (mapped_code coding.q_scale_type m code) before skipped from bs

    by_test : (t i : Bool) → t ≡ (is_coded_without_motion from.kind && are_empty blocks) → i ≡ inner
        → option_map with (elim t [ false ↦ Some blocks | true ↦ elim i [ true ↦ None | false ↦ Some (kept_blocks from) ] ])
        ≡ (elim t [ false ↦ Some (with blocks) | true ↦ elim i [ true ↦ None | false ↦ Some (with (kept_blocks from)) ] ])
    by_test false i test is = refl
    by_test true true test is = refl
    by_test true false test is = refl
