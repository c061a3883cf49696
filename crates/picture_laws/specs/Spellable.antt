-- Values that some bits spell, and macroblocks and slices by their parts.
use Rattle.std.specs.Prelude.{◌≡◌, ◌⊎◌, ◌<◌, ◌≤◌, ◌+◌, ◌-◌, ◌%◌, ◌^◌, ◌==◌, ℕ, unsigned_abs, Option, List, [], ◌∷◌, ◌++◌, length, Bool, true, false, slice_index_or}
use Rattle.std.specs.List.{AllByRecursion}
use Rattle.bit_lists.specs.Fields.{bit_list}
use Rattle.syntax_types.specs.declared.block.TheConstants.{BLOCK_PLACES}
use Rattle.syntax_types.specs.declared.block.Block.{Block}
use Rattle.syntax_types.specs.declared.block.BlockWay.{BlockWay}
use Rattle.syntax_types.specs.declared.macroblock.TheConstants.{BLOCKS}
use Rattle.syntax_types.specs.declared.macroblock.Kind.{Kind}
use Rattle.syntax_types.specs.declared.macroblock.Macroblock.{Macroblock}
use Rattle.syntax_types.specs.declared.picture.PicCoding.{PicCoding}
use Rattle.syntax_types.specs.declared.picture.Picture.{Picture}
use Rattle.syntax_types.specs.declared.picture.SeqState.{SeqState}
use Rattle.syntax_types.specs.declared.slice.Slice.{Slice}
use Rattle.prefix_codes.specs.declared.table_name.TableName.TheVariants.{Pattern}
use Rattle.picture_grammar.specs.Refusal.Refusal.{BadPattern}
use Rattle.picture_grammar.specs.Grammar.{Grammar, optional, when, with_spelling}
use Rattle.picture_grammar.specs.Element.{vlclbf}
use Rattle.stream_constants.specs.declared.start_codes.TheConstants.{FIRST_SLICE}
use Rattle.picture_grammar.specs.declared.escape.TheConstants.{LEVEL_BITS}
use Rattle.picture_grammar.specs.Block.{dc_coefficient, next_place}
use Rattle.picture_grammar.specs.Motion.{motion_vectors}
use Rattle.picture_grammar.specs.Macroblock.{
  address_increment,
  most_increment,
  macroblock_type,
  motion_type,
  dct_type,
  quantiser_scale_code,
  has_forward,
  f_codes,
  motion_format,
  block_way,
  is_coded,
  no_block,
  blocks,
}
use Rattle.picture_grammar.specs.Slice.{slice_info, columns_left}
use Rattle.stream_constants.specs.SliceCodes.{is_slice}
use Rattle.picture_grammar.specs.Head.{head}

-- some bits spell the value
pub record IsSpellable {A : Type 0} (grammar : Grammar A) (value : A) : Type 0 where
  pub bits : List ℕ
  pub rest : List ℕ
  pub spelled : grammar.Spells value bits rest

-- The coefficients of a coded block are within its places, and have levels that bits may say: a non-intra block has at
-- least one (6.2.6, 7.2.2.1 and Table B-16).
pub record HasSpellableCoefficients (way : BlockWay) (b : Block) : Type 0 where
  pub dc : IsSpellable (optional way.intra (dc_coefficient way)) b.dc
  pub places : next_place way b.pairs.items ≤ BLOCK_PLACES
  pub levels : AllByRecursion (λ pair. (0 < unsigned_abs pair.level) × (unsigned_abs pair.level < 2 ^ (LEVEL_BITS - 1))) b.pairs.items
  pub some : (way.intra ≡ true) ⊎ (0 < length b.pairs.items)

-- a block has such coefficients where it is coded, and none elsewhere
abbrev pub IsSpellableBlock : Bool → BlockWay → Block → Type 0
IsSpellableBlock true way b = HasSpellableCoefficients way b
IsSpellableBlock false way b = b ≡ no_block

-- the six blocks of a macroblock are such
pub record AreSpellableBlocks (coding : PicCoding) (kind : Kind) (pattern : ℕ) (bs : List Block) : Type 0 where
  pub six : length bs ≡ BLOCKS
  pub each : (i : ℕ) → i < BLOCKS → IsSpellableBlock (is_coded kind pattern i) (block_way coding kind i) (slice_index_or bs i no_block)

-- each part of the macroblock is one that some bits spell in its place (6.2.5)
pub record HasSpellableParts (coding : PicCoding) (first : Bool) (columns_left : ℕ) (m : Macroblock) : Type 0 where
  pub increment : IsSpellable (address_increment (most_increment coding first columns_left)) (m.skipped_before + 1)
  pub kind : IsSpellable (macroblock_type coding) m.kind
  pub motion_type : IsSpellable (motion_type coding m.kind) m.motion_type
  pub field_dct : IsSpellable (dct_type coding m.kind) m.field_dct
  pub code : IsSpellable (optional m.kind.quant quantiser_scale_code) m.code
  pub forward : IsSpellable (when (has_forward coding m.kind) (motion_vectors (f_codes coding 0) (motion_format coding m.motion_type)) []) m.forward.items
  pub backward : IsSpellable (when m.kind.backward (motion_vectors (f_codes coding 1) (motion_format coding m.motion_type)) []) m.backward.items
  pub pattern : IsSpellable (when m.kind.pattern (vlclbf Pattern BadPattern []) 0) m.pattern
  pub blocks : IsSpellable (blocks coding m.kind m.pattern) m.blocks

-- the header of a slice and each of its macroblocks, behind those before it, are of such parts (6.2.4)
pub record HasSpellableMacroblocks (seq : SeqState) (coding : PicCoding) (s : Slice) : Type 0 where
  pub code : IsSpellable quantiser_scale_code s.code
  pub info : IsSpellable slice_info s.info
  pub some : 0 < length s.macroblocks
  pub each : (front back : List Macroblock) (m : Macroblock) → s.macroblocks ≡ front ++ m ∷ back
      → HasSpellableParts coding (length front == 0) (columns_left seq front) m

-- A unit may begin with the picture's head, behind this state, and each of its slices, at least one, has a start code and
-- such macroblocks (6.2.2, 6.2.3.6).
pub record HasSpellableSlices (before : Option SeqState) (picture : Picture) : Type 0 where
  pub rest : List ℕ
  pub whole : length rest % 8 ≡ 0
  pub head : (with_spelling (head before)).Spells ((picture.seq, picture.coding), picture.head) (bit_list picture.head ++ rest) rest
  pub some : 0 < length picture.slices
  pub each : AllByRecursion (λ s. HasSpellableMacroblocks picture.seq picture.coding s × (is_slice (s.row + FIRST_SLICE) ≡ true)) picture.slices
