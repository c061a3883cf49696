-- A macroblock of a version by its outline.
use Rattle.std.proofs.Common.{◌≡◌, ℕ, zero, suc, ◌+◌, ◌-◌, ◌*◌, ◌^◌, ◌<◌, ◌≤◌, ℤ, pos, Option, Some, None, unwrap_or, is_some, IfSome, List, [], ◌∷◌, ◌++◌, Bool, true, false, refl, sym, ◌∙◌, ap, ap₂, subst, arith, length, get_or, length-append}
use Rattle.std.specs.Prelude.{◌==◌, ◌&&◌, ◌||◌, not, map, if◌then◌else◌}
use Rattle.std.specs.Int.{bit_at}
use Rattle.std.specs.Option.{option_to_list}
use Rattle.std.specs.List.{flat_map, range_with_len}
use Rattle.std.proofs.lemmas.Bool.{and_parts, ne_eqb}
use Rattle.std.proofs.lemmas.Nat.{pow_pos}
use Rattle.bit_lists.specs.Bits.{bits_of, number_of}
use Rattle.bit_lists.specs.Fields.{flag}
use Rattle.prefix_codes.specs.declared.symbol.TheConstants.{END_OF_BLOCK}
use Rattle.prefix_codes.specs.declared.table_name.TableName.TheVariants.{Pattern}
use Rattle.syntax_types.specs.declared.block.Block.{Block}
use Rattle.syntax_types.specs.declared.block.BlockWay.{BlockWay}
use Rattle.syntax_types.specs.declared.block.Dc.{Dc}
use Rattle.syntax_types.specs.declared.block.RunLevel.{RunLevel}
use Rattle.syntax_types.specs.declared.macroblock.Macroblock.{Macroblock}
use Rattle.syntax_types.specs.declared.picture.PicCoding.{PicCoding}
use Rattle.syntax_types.specs.declared.picture.SeqState.{SeqState}
use Rattle.picture_grammar.specs.Block.{coefficient_table, first_place}
use Rattle.picture_grammar.specs.Macroblock.{block_way, f_codes, has_concealment, has_dct_type, has_motion_type, no_block, type_symbol, type_table}
use Rattle.picture_grammar.specs.Written.{if_any, written_block, written_coded_block, written_coefficient, written_coefficients, written_dc, written_increment, written_macroblock, written_vector}
use Rattle.prefix_codes.specs.TableName.{code_for}
use Rattle.requantiser.specs.declared.head.Head.{Head}
use Rattle.requantiser.specs.declared.outline.Outline.{Outline}
use Rattle.requantiser.specs.declared.outline.Outline.TheVariants.{Coded, Skipped}
use Rattle.requantiser.specs.declared.outline.Outlined.{Outlined}
use Rattle.requantiser.specs.declared.tally.Tally.{Tally}
use Rattle.requantiser.specs.declared.version_state.VersionState.{VersionState}
use Rattle.requantiser.specs.Distortion.{coefficient_of_macroblock, difference_of}
use Rattle.requantiser.specs.Macroblocks.{IsCoarserAt, is_empty_block, pattern_of, is_coded_without_motion}
use Rattle.requantiser.specs.Tallies.{IsOutlined, IsTallyOf, bits_beyond, outline_of, outline_under, told_by}
use Rattle.requantiser.specs.Private.Changes.{coefficient_of_blocks}
use Rattle.requantiser.specs.Private.Shapes.{HasShape}
use Rattle.requantiser.specs.Private.Sums.{sum_from}
use Rattle.requantiser.specs.Private.Tallies.{bits_of_block}
use Rattle.requantiser.specs.Private.Walk.{are_empty, coarsened_block, coarsened_blocks, coarsened_macroblock, head_with, kept_blocks, made_blocks, mapped_code, with_blocks, with_pattern}
use Rattle.requantiser.proofs.MadeChanges.{emptied_changes, made_changes, not_failed}
use Rattle.requantiser.proofs.Macroblocks.{coarsened_blocks-are, coarsened_macroblock-is, coarsened_macroblock-made, empty_items, get_or-coarsened, same_blocks}
use Rattle.requantiser.proofs.MappedCodes.{mapped_code-is, one_mapped}
use Rattle.requantiser.proofs.Patterns.{bit_of}
use Rattle.requantiser.proofs.SpellableBlocks.{pattern-bit}
use Rattle.requantiser.proofs.Sums.{sum_from-none, sum_from-suc}
use Rattle.requantiser.proofs.Tallies.{no_end}

-- ---- a pattern of 0

one_pattern_empty : (e : Bool) (n rest : ℕ) (all : Bool) → (rest == 0) ≡ all → (flag (not e) * 2 ^ n + rest == 0) ≡ (e && all)
one_pattern_empty true n rest all is = let same : 0 * 2 ^ n + rest ≡ rest = omega arith in ap (λ m. m == 0) same ∙ is
one_pattern_empty false n rest all is = ne_eqb (1 * 2 ^ n + rest) 0 (λ e. absurd (omega (arith, e, pow_pos n)))

pub pattern_empty : (bs : List Block) → (pattern_of bs == 0) ≡ are_empty bs
unfolding number_of
pattern_empty [] = refl
pattern_empty (b ∷ bs) = one_pattern_empty (is_empty_block b) (length (map bit_of bs)) (pattern_of bs) (are_empty bs) (pattern_empty bs)

-- ---- the bits of blocks with coefficients and without

-- the end of the block is the least that is written
ends-intra : (luma vlc_one : Bool) (first place : ℕ) (items : List RunLevel) → let way : BlockWay = record { intra = true; luma = luma; vlc_one = vlc_one } in
    length (code_for (coefficient_table way first) END_OF_BLOCK) ≤ length (written_coefficients way place items)
ends-intra luma vlc_one first place [] = omega arith
ends-intra luma vlc_one first place (pair ∷ pairs) =
    let way : BlockWay = record { intra = true; luma = luma; vlc_one = vlc_one } in
    omega (
      arith,
      ends-intra luma vlc_one first (place + (pair.run + 1)) pairs,
      length-append (written_coefficient (coefficient_table way place) pair) (written_coefficients way (place + (pair.run + 1)) pairs),
    )

pub ends-most : (intra luma vlc_one : Bool) (items : List RunLevel) → let way : BlockWay = record { intra = intra; luma = luma; vlc_one = vlc_one } in
    length (written_coefficients way (first_place way) []) ≤ length (written_coefficients way (first_place way) items)
ends-most true luma vlc_one items = ends-intra luma vlc_one 1 1 items
ends-most false luma vlc_one items = omega (arith, no_end)

block-length : (way : BlockWay) (dc : Option Dc) (items : List RunLevel) → let block : Block = record { dc = dc; pairs = record { items = items } } in
    length (written_block way block) ≡ length (if_any (written_dc way) dc) + length (written_coefficients way (first_place way) items)
unfolding written_block
block-length way dc items = length-append (if_any (written_dc way) dc) (written_coefficients way (first_place way) items)

-- a block, where it is coded, and its outline
pub one_written : (way : BlockWay) (coded : Bool) (dc : Option Dc) (items : List RunLevel) → (coded ≡ false → items ≡ [])
    → let block : Block = record { dc = dc; pairs = record { items = items } } in
    length (if coded then written_block way block else []) ≡ length (if coded then written_block way (outline_of block) else []) + bits_beyond way items
one_written way true dc items none =
    omega (arith, block-length way dc items, block-length way dc [], ends-most way.intra way.luma way.vlc_one items)
one_written way false dc items none =
    let beyond : bits_beyond way items ≡ bits_beyond way [] = ap (bits_beyond way) (none refl) in
    omega (arith, beyond)

pub flat_lengths : (f g : ℕ → List ℕ) (h : ℕ → ℕ) (a n : ℕ) → ((i : ℕ) → a ≤ i → i < a + n → length (f i) ≡ length (g i) + h i)
    → length (flat_map f (range_with_len a n)) ≡ length (flat_map g (range_with_len a n)) + sum_from h a n
flat_lengths f g h a zero each = omega (arith, sum_from-none h a)
flat_lengths f g h a (suc n) each = omega (
  arith,
  length-append (f a) (flat_map f (range_with_len (a + 1) n)),
  length-append (g a) (flat_map g (range_with_len (a + 1) n)),
  sum_from-suc h a n,
  each a (omega arith) (omega arith),
  flat_lengths f g h (a + 1) n (λ i low high. each i (omega arith) (omega arith)),
)

-- ---- the bits of macroblocks

abbrev written_head : PicCoding → Macroblock → List ℕ
written_head coding m =
    written_increment (m.skipped_before + 1)
    ++ code_for (type_table coding) (type_symbol m.kind)
    ++ (if has_motion_type coding m.kind then bits_of 2 m.motion_type else [])
    ++ (if has_dct_type coding m.kind then flag m.field_dct ∷ [] else [])
    ++ if_any (bits_of 5) m.code
    ++ flat_map (written_vector (f_codes coding 0)) m.forward.items
    ++ flat_map (written_vector (f_codes coding 1)) m.backward.items
    ++ (if has_concealment coding m.kind then 1 ∷ [] else [])
    ++ (if m.kind.pattern then code_for Pattern m.pattern else [])

macroblock-length : (coding : PicCoding) (m : Macroblock)
    → length (written_macroblock coding m) ≡ length (written_head coding m) + length (flat_map (written_coded_block coding m) (range_with_len 0 6))
unfolding written_macroblock
macroblock-length coding m = length-append (written_head coding m) (flat_map (written_coded_block coding m) (range_with_len 0 6))

-- the outline of a block at an index
pub get_or-outlines : (blocks : List Block) (i : ℕ) → get_or (map outline_of blocks) i no_block ≡ outline_of (get_or blocks i no_block)
get_or-outlines [] i = refl
get_or-outlines (b ∷ bs) zero = refl
get_or-outlines (b ∷ bs) (suc i) = get_or-outlines bs i

pub outline-length : (seq : SeqState) (coding : PicCoding) (code mapped before skipped pattern : ℕ) (from : Macroblock) → length from.blocks ≡ 6
    → pattern ≡ (if from.kind.intra then 0 else pattern_of (coarsened_blocks seq coding from.kind code mapped from.blocks))
    → length (written_macroblock coding (with_blocks coding mapped before skipped from (coarsened_blocks seq coding from.kind code mapped from.blocks)))
    ≡ length (written_macroblock coding (with_pattern coding mapped before skipped pattern from (map outline_of from.blocks)))
    + sum_from (bits_of_block coding from.kind (coarsened_blocks seq coding from.kind code mapped from.blocks)) 0 6
outline-length seq coding code mapped before skipped pattern from six is =
    let blocks : List Block = coarsened_blocks seq coding from.kind code mapped from.blocks in
    let outlines : List Block = map outline_of from.blocks in
    let made : Macroblock = with_pattern coding mapped before skipped pattern from blocks in
    let outline : Macroblock = with_pattern coding mapped before skipped pattern from outlines in
    let same : length (written_macroblock coding (with_blocks coding mapped before skipped from blocks)) ≡ length (written_macroblock coding made) =
    ap (λ p. length (written_macroblock coding (with_pattern coding mapped before skipped p from blocks))) (sym is) in
    omega (
      arith,
      same,
      macroblock-length coding made,
      macroblock-length coding outline,
      flat_lengths (written_coded_block coding made) (written_coded_block coding outline) (bits_of_block coding from.kind blocks) 0 6 (λ i low high. each i (omega (arith, high))),
    )
  where
    not_coded : (i : ℕ) → i < 6 → (intra : Bool) → intra ≡ from.kind.intra
        → (intra || (bit_at (if intra then 0 else pattern_of (coarsened_blocks seq coding from.kind code mapped from.blocks)) (5 - i) == 1)) ≡ false
        → is_empty_block (get_or (coarsened_blocks seq coding from.kind code mapped from.blocks) i no_block) ≡ true
    not_coded i below true intra none = absurd (cc)
    not_coded i below false intra none =
        let blocks : List Block = coarsened_blocks seq coding from.kind code mapped from.blocks in
        not_failed _ (sym (pattern-bit blocks ((coarsened_blocks-are seq coding from.kind code mapped from.blocks six).0 ∙ six) i below) ∙ none)

    each : (i : ℕ) → i < 6
        → length (written_coded_block coding (with_pattern coding mapped before skipped pattern from (coarsened_blocks seq coding from.kind code mapped from.blocks)) i)
        ≡ length (written_coded_block coding (with_pattern coding mapped before skipped pattern from (map outline_of from.blocks)) i)
        + bits_of_block coding from.kind (coarsened_blocks seq coding from.kind code mapped from.blocks) i
    each i below =
        let blocks : List Block = coarsened_blocks seq coding from.kind code mapped from.blocks in
        let way : BlockWay = block_way coding from.kind i in
        let source : Block = get_or from.blocks i no_block in
        let block : Block = coarsened_block seq coding way code mapped source in
        let coded : Bool = from.kind.intra || (bit_at pattern (5 - i) == 1) in
        let here : get_or blocks i no_block ≡ block = get_or-coarsened seq coding from.kind code mapped from.blocks i below in
        let none : coded ≡ false → block.pairs.items ≡ [] = λ e. empty_items block.pairs.items
        (ap is_empty_block (sym here) ∙ not_coded i below from.kind.intra refl (ap (λ p. from.kind.intra || (bit_at p (5 - i) == 1)) (sym is) ∙ e)) in
        ap (λ (b : Block). length (if coded then written_block way b else [])) here
        ∙ one_written way coded block.dc block.pairs.items none
        ∙ ap₂ (λ (o b : Block). length (if coded then written_block way o else []) + bits_beyond way b.pairs.items) (sym (get_or-outlines from.blocks i)) (sym here)

-- one macroblock among those that are written
one-length : (coding : PicCoding) (m : Macroblock) → length (flat_map (written_macroblock coding) (option_to_list (Some m))) ≡ length (written_macroblock coding m)
one-length coding m = length-append (written_macroblock coding m) [] ∙ omega arith

-- ---- what becomes of a macroblock

module _ (seq : SeqState) (coding : PicCoding) (inner : Bool) (from : Macroblock) (before behind : VersionState) (tally : Tally) (outlined : Outlined) (lent : Macroblock)
    (shape : HasShape from) (tallied : IsTallyOf seq coding (unwrap_or from.code before.source_code) before.m from tally) where
  code : ℕ
  code = unwrap_or from.code before.source_code

  abbrev made : List Block
  made = coarsened_blocks seq coding from.kind (unwrap_or from.code before.source_code) tally.target.code from.blocks

  mapped_is : tally.target.code ≡ mapped_code coding.q_scale_type before.m (unwrap_or from.code before.source_code)
  mapped_is = one_mapped coding.q_scale_type before.m (unwrap_or from.code before.source_code) _ _ tallied.mapped (mapped_code-is coding.q_scale_type before.m (unwrap_or from.code before.source_code))

  blocks_are : tallied.blocks ≡ made
  blocks_are = same_blocks seq coding from.kind (unwrap_or from.code before.source_code) tally.target.code from.blocks tallied.blocks made tallied.coarser
      (coarsened_blocks-are seq coding from.kind (unwrap_or from.code before.source_code) tally.target.code from.blocks shape.six)

  pattern_is : tally.pattern ≡ pattern_of made
  pattern_is = tallied.pattern ∙ ap pattern_of blocks_are

  tested : (is_coded_without_motion from.kind && (tally.pattern == 0)) ≡ (is_coded_without_motion from.kind && are_empty made)
  tested = ap (λ b. is_coded_without_motion from.kind && b) (ap (λ n. n == 0) pattern_is ∙ pattern_empty made)

  abbrev source : ℕ → ℕ → ℤ
  source = coefficient_of_blocks seq coding from.kind (unwrap_or from.code before.source_code) from.blocks

  moved : tally.distortion ≡ difference_of source (coefficient_of_blocks seq coding from.kind tally.target.code made)
  moved = tallied.distortion ∙ ap (λ bs. difference_of source (coefficient_of_blocks seq coding from.kind tally.target.code bs)) blocks_are

  bits_are : tally.bits ≡ sum_from (bits_of_block coding from.kind made) 0 6
  unfolding sum_from
  bits_are = tallied.bits ∙ ap (λ bs. sum_from (bits_of_block coding from.kind bs) 0 6) blocks_are

  pub coded_outlined : (head : Head) → (is_coded_without_motion from.kind && (tally.pattern == 0)) ≡ false
      → head ≡ head_with from.kind.intra tally.target.code before.version_code (before.skipped + from.skipped_before) (if from.kind.intra then 0 else tally.pattern)
      → behind.m ≡ before.m → behind.source_code ≡ unwrap_or from.code before.source_code → behind.version_code ≡ unwrap_or head.code before.version_code → behind.skipped ≡ 0
      → outlined.outline ≡ Coded head → outlined.bits ≡ tally.bits → outlined.distortion ≡ tally.distortion
      → IsOutlined seq coding inner from before behind outlined lent
  coded_outlined head stays head_is ratio source_code version_code skipped coded bits distortion =
      let in_force : ℕ = unwrap_or from.code before.source_code in
      let mapped : ℕ = tally.target.code in
      let gap : ℕ = before.skipped + from.skipped_before in
      let whole : Macroblock = with_blocks coding mapped before.version_code gap from made in
      let some : ◌≡◌ {A = Option (List Block)} (Some made) (made_blocks seq coding inner in_force mapped from) =
      ap (λ t. let o : Option (List Block) = elim t [ false ↦ Some made | true ↦ elim inner [ true ↦ None | false ↦ Some (kept_blocks from) ] ] in o) (sym stays ∙ tested) in
      let same : ◌≡◌ {A = Option Macroblock} (Some whole) (coarsened_macroblock seq coding before.m inner in_force before.version_code gap from) =
      coarsened_macroblock-made seq coding before.m inner in_force mapped before.version_code gap from (Some made) mapped_is some in
      let patterns : (if from.kind.intra then 0 else tally.pattern) ≡ (if from.kind.intra then 0 else pattern_of made) = ap (λ n. if from.kind.intra then 0 else n) pattern_is in
      let outline : Macroblock = with_pattern coding mapped before.version_code gap (if from.kind.intra then 0 else tally.pattern) from (map outline_of from.blocks) in
      let to : Macroblock = outline_under coding from head in
      let to_is : to ≡ outline = ap (outline_under coding from) head_is in
      let codes : head.code ≡ whole.code = ap (λ (m : Macroblock). m.code) to_is
      ∙ ap (λ p. let m : Macroblock = with_pattern coding mapped before.version_code gap p from made in m.code) patterns in
      record {
        made = Some whole;
        at = subst (IsCoarserAt seq coding before.m inner before.source_code before.version_code (Some from)) (sym same)
            (coarsened_macroblock-is seq coding before.m inner before.source_code before.version_code gap from shape);
        state = record {
          ratio = ratio;
          source_code = source_code;
          version_code = version_code ∙ ap (λ c. unwrap_or c before.version_code) codes;
          skipped = skipped;
          placed = refl;
        };
        difference = distortion ∙ moved
            ∙ made_changes seq coding mapped before.version_code gap from made source whole refl
            ∙ ap₂ (λ a b. difference_of (coefficient_of_macroblock seq coding a (Some from)) (coefficient_of_macroblock seq coding b (Some whole)))
            (sym source_code) (sym (version_code ∙ ap (λ c. unwrap_or c before.version_code) codes));
        bits = omega (
          arith,
          bits,
          bits_are,
          one-length coding whole,
          one-length coding to,
          ap (λ (m : Macroblock). length (written_macroblock coding m)) to_is,
          outline-length seq coding in_force mapped before.version_code gap (if from.kind.intra then 0 else tally.pattern) from shape.six patterns,
          ap (λ (o : Outline). length (flat_map (written_macroblock coding) (option_to_list (told_by coding from lent o)))) coded,
        );
        coded = ap (λ (o : Outline). is_some (told_by coding from lent o)) (sym coded);
        head = subst (λ (o : Outline). IfSome (told_by coding from lent o)
            (λ told. (told.skipped_before ≡ whole.skipped_before) × (told.kind ≡ whole.kind) × (told.code ≡ whole.code) × (told.pattern ≡ whole.pattern)))
            (sym coded) (
              ap (λ (m : Macroblock). m.skipped_before) to_is,
              ap (λ (m : Macroblock). m.kind) to_is ∙ ap (λ p. let m : Macroblock = with_pattern coding mapped before.version_code gap p from made in m.kind) patterns,
              codes,
              ap (λ (m : Macroblock). m.pattern) to_is ∙ ap (λ p. let m : Macroblock = with_pattern coding mapped before.version_code gap p from made in m.pattern) patterns,
            );
      }

  pub skipped_outlined : (is_coded_without_motion from.kind && (tally.pattern == 0)) ≡ true → inner ≡ true
      → behind.m ≡ before.m → behind.source_code ≡ unwrap_or from.code before.source_code → behind.version_code ≡ before.version_code → behind.skipped ≡ before.skipped + from.skipped_before + 1
      → outlined.outline ≡ Skipped → outlined.bits ≡ 0 → outlined.distortion ≡ tally.distortion
      → IsOutlined seq coding inner from before behind outlined lent
  skipped_outlined emptied is_inner ratio source_code version_code skipped coded bits distortion =
      let in_force : ℕ = unwrap_or from.code before.source_code in
      let mapped : ℕ = tally.target.code in
      let gap : ℕ = before.skipped + from.skipped_before in
      let none : ◌≡◌ {A = Option (List Block)} None (made_blocks seq coding inner in_force mapped from) =
      ap₂ (λ t i. let o : Option (List Block) = elim t [ false ↦ Some made | true ↦ elim i [ true ↦ None | false ↦ Some (kept_blocks from) ] ] in o)
      (sym emptied ∙ tested) (sym is_inner) in
      let same : ◌≡◌ {A = Option Macroblock} None (coarsened_macroblock seq coding before.m inner in_force before.version_code gap from) =
      coarsened_macroblock-made seq coding before.m inner in_force mapped before.version_code gap from None mapped_is none in
      let empty : are_empty made ≡ true = (and_parts (is_coded_without_motion from.kind) (are_empty made) (sym tested ∙ emptied)).1 in
      record {
        made = None;
        at = subst (IsCoarserAt seq coding before.m inner before.source_code before.version_code (Some from)) (sym same)
            (coarsened_macroblock-is seq coding before.m inner before.source_code before.version_code gap from shape);
        state = record { ratio = ratio; source_code = source_code; version_code = version_code; skipped = skipped; placed = tt };
        difference = distortion ∙ moved ∙ emptied_changes seq coding from.kind mapped source made empty
            ∙ ap (λ a. difference_of (coefficient_of_macroblock seq coding a (Some from)) (λ i index. pos 0)) (sym source_code);
        bits = omega (arith, bits, ap (λ (o : Outline). length (flat_map (written_macroblock coding) (option_to_list (told_by coding from lent o)))) coded);
        coded = ap (λ (o : Outline). is_some (told_by coding from lent o)) (sym coded);
        head = tt;
      }
