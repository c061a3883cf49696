-- A macroblock's outline is as long as its head in the version, and its motion and DC coefficients in the source.
use Rattle.std.proofs.Common.{◌≡◌, ℕ, zero, suc, ◌+◌, Bool, true, false, Option, None, Some, List, [], ◌++◌, if◌then◌else◌, refl, ap, ap₂, ◌∙◌, subst, length, get_or, length-append, arith}
use Rattle.std.specs.Prelude.{◌==◌, is_some, map, not}
use Rattle.std.specs.List.{flat_map, range_with_len}
use Rattle.std.specs.Option.{option_to_list}
use Rattle.bit_lists.specs.Bits.{bits_of}
use Rattle.bit_lists.proofs.BitLemmas.{length-bits_of}
use Rattle.syntax_types.specs.declared.block.Block.{Block}
use Rattle.syntax_types.specs.declared.macroblock.Kind.{Kind}
use Rattle.syntax_types.specs.declared.macroblock.Macroblock.{Macroblock}
use Rattle.syntax_types.specs.declared.picture.PicCoding.{PicCoding}
use Rattle.picture_grammar.specs.Macroblock.{block_way, no_block}
use Rattle.picture_grammar.specs.Written.{if_any, written_increment, written_macroblock}
use Rattle.prefix_codes.specs.declared.table_name.TableName.TheVariants.{Pattern}
use Rattle.prefix_codes.specs.TableName.{code_for}
use Rattle.macroblock_writer.specs.Parts.{HasDcAlone, dc_length, head_length, kind_length, motion_length, written_dc_block}
use Rattle.macroblock_writer.proofs.Parts.{alone-length}
use Rattle.requantiser.specs.declared.head.Head.{Head}
use Rattle.requantiser.specs.Tallies.{kind_under, outline_of, outline_under}
use Rattle.requantiser.specs.VersionState.{IsSpelledMacroblock}
use Rattle.requantiser.specs.Private.Shapes.{HasShape}
use Rattle.version_maker.specs.Private.Kinds.{AreKindBits}
use Rattle.requantiser.proofs.Outlines.{get_or-outlines}
use Rattle.requantiser.proofs.Spelled.{walkable}

outline-alone : (coding : PicCoding) (from : Macroblock) (head : Head) → HasShape from → HasDcAlone (outline_under coding from head)
outline-alone coding from head shape = record {
  none = λ i below. ap (λ (b : Block). b.pairs.items) (get_or-outlines from.blocks i);
  no_dc = λ non_intra i below. ap (λ (b : Block). b.dc) (get_or-outlines from.blocks i) ∙ shape.no_dc non_intra i below;
}

same_flat : (f g : ℕ → List ℕ) (a n : ℕ) → ((i : ℕ) → f i ≡ g i) → flat_map f (range_with_len a n) ≡ flat_map g (range_with_len a n)
same_flat f g a zero each = refl
same_flat f g a (suc n) each = ap₂ (λ (xs ys : List ℕ). xs ++ ys) (each a) (same_flat f g (a + 1) n each)

outline-dc : (coding : PicCoding) (from : Macroblock) (head : Head) → dc_length coding (outline_under coding from head) ≡ dc_length coding from
outline-dc coding from head =
    ap (λ (bits : List ℕ). if from.kind.intra then length bits else 0)
    (same_flat
    (λ i. let block : Block = get_or (map outline_of from.blocks) i no_block in written_dc_block (block_way coding (kind_under from.kind head) i) block.dc)
    (λ i. let block : Block = get_or from.blocks i no_block in written_dc_block (block_way coding from.kind i) block.dc)
    0 6
    (λ i. ap (λ (b : Block). written_dc_block (block_way coding from.kind i) b.dc) (get_or-outlines from.blocks i)))

pub outline-counted : (coding : PicCoding) (from : Macroblock) (head : Head) (shared : ℕ) → IsSpelledMacroblock coding from → shared ≡ motion_length coding from + dc_length coding from
    → head_length coding head.skipped_before (kind_under from.kind head) head.code head.pattern + shared
    ≡ length (flat_map (written_macroblock coding) (option_to_list (Some (outline_under coding from head))))
outline-counted coding from head shared spelled is =
    let outline : Macroblock = outline_under coding from head in
    omega (
      arith,
      is,
      outline-dc coding from head,
      alone-length coding outline (outline-alone coding from head (walkable coding from spelled).shape),
      length-append (written_macroblock coding outline) [],
    )

-- the bits of quantiser_scale_code
pub code-length : (code : Option ℕ) → length (if_any (bits_of 5) code) ≡ (if is_some code then 5 else 0)
code-length None = refl
code-length (Some code) = length-bits_of 5 code

-- the bits of the types by the flags of a head
pub kinds-at : (coding : PicCoding) (source : Kind) (n p c b : ℕ) (head : Head) → AreKindBits coding source n p c b
    → (if is_some head.code then (if not (head.pattern == 0) then b else c) else (if not (head.pattern == 0) then p else n))
    ≡ kind_length coding (kind_under source head) + (if is_some head.code then 5 else 0)
kinds-at coding source n p c b head are = by_flags (is_some head.code) (not (head.pattern == 0))
  where
    by_flags : (quant pattern : Bool) → (if quant then (if pattern then b else c) else (if pattern then p else n))
        ≡ kind_length coding (record source { quant = quant; pattern = pattern }) + (if quant then 5 else 0)
    by_flags true true = are.both
    by_flags true false = are.code
    by_flags false true = omega (arith, are.pattern)
    by_flags false false = omega (arith, are.neither)

-- the bits of a head without a code, by whether a pattern stands there
pub stayed-length : (coding : PicCoding) (from : Macroblock) (pattern : ℕ) (stands : Bool) → not (pattern == 0) ≡ stands
    → head_length coding from.skipped_before (record from.kind { quant = false; pattern = not (pattern == 0) }) None pattern
    ≡ length (written_increment (from.skipped_before + 1)) + kind_length coding (record from.kind { quant = false; pattern = stands }) + length (if stands then code_for Pattern pattern else [])
stayed-length coding from pattern stands is = subst
    (λ (b : Bool). head_length coding from.skipped_before (record from.kind { quant = false; pattern = not (pattern == 0) }) None pattern
    ≡ length (written_increment (from.skipped_before + 1)) + kind_length coding (record from.kind { quant = false; pattern = b }) + length (if b then code_for Pattern pattern else []))
    is (omega (arith, code-length None))
