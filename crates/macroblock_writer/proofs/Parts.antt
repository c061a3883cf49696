-- A macroblock is as long as its parts.
use Rattle.std.proofs.Common.{◌≡◌, ℕ, zero, suc, ◌+◌, ◌<◌, ◌≤◌, Option, None, List, [], ◌∷◌, ◌++◌, Bool, true, false, if◌then◌else◌, refl, ap, ◌∙◌, length, slice_index_or, arith}
use Rattle.std.specs.Prelude.{◌==◌, ◌-◌, ◌||◌}
use Rattle.std.specs.Int.{bit_at}
use Rattle.std.specs.List.{flat_map, range_with_len}
use Rattle.std.proofs.lemmas.List.{length-append}
use Rattle.bit_lists.specs.Bits.{bits_of}
use Rattle.bit_lists.specs.Fields.{flag}
use Rattle.bit_lists.proofs.BitLemmas.{length-bits_of}
use Rattle.prefix_codes.specs.CoefficientTables.{dct_coefficients_first, longest_coefficients, shared_coefficients}
use Rattle.prefix_codes.specs.TableName.{code_in, code_for}
use Rattle.prefix_codes.specs.declared.symbol.TheConstants.{END_OF_BLOCK}
use Rattle.prefix_codes.specs.declared.table_name.TableName.TheVariants.{CoeffFirst, Pattern}
use Rattle.syntax_types.specs.declared.block.Block.{Block}
use Rattle.syntax_types.specs.declared.block.BlockWay.{BlockWay}
use Rattle.syntax_types.specs.declared.block.Dc.{Dc}
use Rattle.syntax_types.specs.declared.block.RunLevel.{RunLevel}
use Rattle.syntax_types.specs.declared.macroblock.Macroblock.{Macroblock}
use Rattle.syntax_types.specs.declared.picture.PicCoding.{PicCoding}
use Rattle.picture_grammar.specs.Macroblock.{type_table, type_symbol, has_motion_type, has_dct_type, has_concealment, f_codes, block_way, no_block}
use Rattle.picture_grammar.specs.Written.{if_any, written_block, written_coded_block, written_increment, written_macroblock, written_vector}
use Rattle.macroblock_writer.specs.Parts.{HasDcAlone, dc_length, head_length, motion_length, written_dc_block}
use Rattle.macroblock_writer.proofs.Counts.{part_where}

pub parts-length : (coding : PicCoding) (m : Macroblock) → length (written_macroblock coding m)
    ≡ head_length coding m.skipped_before m.kind m.code m.pattern + motion_length coding m + length (flat_map (written_coded_block coding m) (range_with_len 0 6))
unfolding written_macroblock
parts-length coding m =
    let a : List ℕ = written_increment (m.skipped_before + 1) in
    let b : List ℕ = code_for (type_table coding) (type_symbol m.kind) in
    let c : List ℕ = if has_motion_type coding m.kind then bits_of 2 m.motion_type else [] in
    let d : List ℕ = if has_dct_type coding m.kind then flag m.field_dct ∷ [] else [] in
    let e : List ℕ = if_any (bits_of 5) m.code in
    let f : List ℕ = flat_map (written_vector (f_codes coding 0)) m.forward.items in
    let g : List ℕ = flat_map (written_vector (f_codes coding 1)) m.backward.items in
    let h : List ℕ = if has_concealment coding m.kind then 1 ∷ [] else [] in
    let i : List ℕ = if m.kind.pattern then code_for Pattern m.pattern else [] in
    let j : List ℕ = flat_map (written_coded_block coding m) (range_with_len 0 6) in
    omega (
      arith,
      length-append (a ++ b ++ c ++ d ++ e ++ f ++ g ++ h ++ i) j,
      length-append (a ++ b ++ c ++ d ++ e ++ f ++ g ++ h) i,
      length-append (a ++ b ++ c ++ d ++ e ++ f ++ g) h,
      length-append (a ++ b ++ c ++ d ++ e ++ f) g,
      length-append (a ++ b ++ c ++ d ++ e) f,
      length-append (a ++ b ++ c ++ d) e,
      length-append (a ++ b ++ c) d,
      length-append (a ++ b) c,
      length-append a b,
      part_where (has_motion_type coding m.kind) (bits_of 2 m.motion_type) 2 (length-bits_of 2 m.motion_type),
      part_where (has_dct_type coding m.kind) (flag m.field_dct ∷ []) 1 refl,
      part_where (has_concealment coding m.kind) (1 ∷ []) 1 refl,
    )

-- ---- where DC coefficients stand alone

no_end : length (code_for CoeffFirst END_OF_BLOCK) ≡ 0
unfolding code_in dct_coefficients_first shared_coefficients longest_coefficients
no_end = refl

same_flat : (f g : ℕ → List ℕ) (a n : ℕ) → ((i : ℕ) → a ≤ i → i < a + n → length (f i) ≡ length (g i))
    → length (flat_map f (range_with_len a n)) ≡ length (flat_map g (range_with_len a n))
same_flat f g a zero each = refl
same_flat f g a (suc n) each = omega (
  arith,
  length-append (f a) (flat_map f (range_with_len (a + 1) n)),
  length-append (g a) (flat_map g (range_with_len (a + 1) n)),
  each a (omega arith) (omega arith),
  same_flat f g (a + 1) n (λ i low high. each i (omega arith) (omega arith)),
)

no_flat : (f : ℕ → List ℕ) (a n : ℕ) → ((i : ℕ) → a ≤ i → i < a + n → length (f i) ≡ 0) → length (flat_map f (range_with_len a n)) ≡ 0
no_flat f a zero each = refl
no_flat f a (suc n) each = omega (
  arith,
  length-append (f a) (flat_map f (range_with_len (a + 1) n)),
  each a (omega arith) (omega arith),
  no_flat f (a + 1) n (λ i low high. each i (omega arith) (omega arith)),
)

-- a block without other coefficients is its DC coefficient
alone : (way : BlockWay) (block : Block) → block.pairs.items ≡ [] → written_block way block ≡ written_dc_block way block.dc
alone way block none = ap (λ (items : List RunLevel). written_block way (record { dc = block.dc; pairs = record { items = items } })) none

-- and nothing where there is none, in a non-intra block
nothing : (way : BlockWay) (block : Block) → way.intra ≡ false → block.pairs.items ≡ [] → block.dc ≡ None → length (written_block way block) ≡ 0
unfolding written_block
nothing way block non_intra none no_dc =
    ap (λ (items : List RunLevel). length (written_block way (record { dc = block.dc; pairs = record { items = items } }))) none
    ∙ ap (λ (dc : Option Dc). length (written_block way (record { dc = dc; pairs = record { items = [] } }))) no_dc
    ∙ ap (λ (intra : Bool). length (written_block (record { intra = intra; luma = way.luma; vlc_one = way.vlc_one }) (record { dc = None; pairs = record { items = [] } }))) non_intra
    ∙ no_end

blocks-alone : (coding : PicCoding) (m : Macroblock) → HasDcAlone m → length (flat_map (written_coded_block coding m) (range_with_len 0 6)) ≡ dc_length coding m
blocks-alone coding m is = by_intra m.kind.intra refl
  where
    one : (i : ℕ) → i < 6 → (coded : Bool) → coded ≡ true
        → let block : Block = slice_index_or m.blocks i no_block in length (if coded then written_block (block_way coding m.kind i) block else []) ≡ length (written_dc_block (block_way coding m.kind i) block.dc)
    one i below true coded = ap length (alone (block_way coding m.kind i) (slice_index_or m.blocks i no_block) (is.none i below))
    one i below false coded = absurd (cc)

    none : (i : ℕ) → i < 6 → m.kind.intra ≡ false → (coded : Bool)
        → let block : Block = slice_index_or m.blocks i no_block in length (if coded then written_block (block_way coding m.kind i) block else []) ≡ 0
    none i below non_intra true = nothing (block_way coding m.kind i) (slice_index_or m.blocks i no_block) non_intra (is.none i below) (is.no_dc non_intra i below)
    none i below non_intra false = refl

    by_intra : (intra : Bool) → m.kind.intra ≡ intra → length (flat_map (written_coded_block coding m) (range_with_len 0 6))
        ≡ (if intra
        then length (flat_map (λ i. let block : Block = slice_index_or m.blocks i no_block in written_dc_block (block_way coding m.kind i) block.dc) (range_with_len 0 6))
        else 0)
    by_intra true intra = same_flat (written_coded_block coding m) (λ i. let block : Block = slice_index_or m.blocks i no_block in written_dc_block (block_way coding m.kind i) block.dc) 0 6
        (λ i low high. one i (omega (arith, high)) (m.kind.intra || (bit_at m.pattern (5 - i) == 1)) (ap (λ (b : Bool). b || (bit_at m.pattern (5 - i) == 1)) intra))
    by_intra false non_intra = no_flat (written_coded_block coding m) 0 6 (λ i low high. none i (omega (arith, high)) non_intra (m.kind.intra || (bit_at m.pattern (5 - i) == 1)))

-- a macroblock whose DC coefficients stand alone is its head, its motion and them
pub alone-length : (coding : PicCoding) (m : Macroblock) → HasDcAlone m → length (written_macroblock coding m)
    ≡ head_length coding m.skipped_before m.kind m.code m.pattern + (motion_length coding m + dc_length coding m)
alone-length coding m is = omega (arith, parts-length coding m, blocks-alone coding m is)
