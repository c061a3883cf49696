-- What is counted of the coefficients of a macroblock in a version that isn't made, and what becomes of the macroblock there.
use Rattle.std.specs.Prelude.{◌≡◌, ◌≤◌, ◌+◌, ◌-◌, ◌^◌, ◌==◌, ◌&&◌, ℕ, not, Option, Some, None, is_none, is_some, IfSome, List, [], length, map, slice_index_or, Bool}
use Rattle.std.specs.Option.{option_to_list}
use Rattle.std.specs.List.{flat_map, range_with_len, sum_by}
use Rattle.quant_math.specs.Scales.{IsMappedCode}
use Rattle.syntax_types.specs.declared.block.Block.{Block}
use Rattle.syntax_types.specs.declared.block.BlockWay.{BlockWay}
use Rattle.syntax_types.specs.declared.block.RunLevel.{RunLevel}
use Rattle.syntax_types.specs.declared.macroblock.Kind.{Kind}
use Rattle.syntax_types.specs.declared.macroblock.Macroblock.{Macroblock}
use Rattle.syntax_types.specs.declared.macroblock.TheConstants.{BLOCKS}
use Rattle.syntax_types.specs.declared.picture.PicCoding.{PicCoding}
use Rattle.syntax_types.specs.declared.picture.SeqState.{SeqState}
use Rattle.picture_grammar.specs.Block.{first_place}
use Rattle.picture_grammar.specs.Macroblock.{block_way, has_dct_type, no_block}
use Rattle.picture_grammar.specs.Written.{written_coefficients, written_macroblock}
use Rattle.requantiser.specs.declared.head.Head.{Head}
use Rattle.requantiser.specs.declared.outline.Outline.{Outline}
use Rattle.requantiser.specs.declared.outline.Outline.TheVariants.{Coded, Kept, Skipped}
use Rattle.requantiser.specs.declared.outline.Outlined.{Outlined}
use Rattle.requantiser.specs.declared.tally.Tally.{Tally}
use Rattle.requantiser.specs.declared.version_state.VersionState.{VersionState}
use Rattle.requantiser.specs.Blocks.{AreCoarserBlocks}
use Rattle.requantiser.specs.Distortion.{coefficient_of_macroblock, difference_of}
use Rattle.requantiser.specs.Levels.{coefficient_at, scan_place}
use Rattle.requantiser.specs.Macroblocks.{IsCoarserAt, is_coded_without_motion, pattern_of}
use Rattle.requantiser.specs.VersionState.{IsStateBehind}

-- in how many bits more the coefficients of a block are written than none (ISO/IEC 13818-2, 6.2.6)
abbrev pub bits_beyond : BlockWay → List RunLevel → ℕ
bits_beyond way pairs = length (written_coefficients way (first_place way) pairs) - length (written_coefficients way (first_place way) [])

-- The coefficients of a macroblock in which this code is in force were counted in the version at m sixteenths: the pattern
-- of its coarser blocks, the bits in which they are written beyond those of blocks without coefficients, and how far their
-- coefficients are from the source's.
pub record IsTallyOf (seq : SeqState) (coding : PicCoding) (code m : ℕ) (from : Macroblock) (tally : Tally) : Type 0 where
  pub mapped : IsMappedCode coding.q_scale_type code m tally.target.code
  pub blocks : List Block
  pub coarser : AreCoarserBlocks seq coding from.kind code tally.target.code from.blocks blocks
  pub pattern : tally.pattern ≡ pattern_of blocks
  pub bits : tally.bits ≡ sum_by (λ i. let block : Block = slice_index_or blocks i no_block in bits_beyond (block_way coding from.kind i) block.pairs.items) (range_with_len 0 BLOCKS)
  pub few : tally.bits ≤ 2 ^ 15
  pub distortion : tally.distortion ≡ difference_of
      (λ i index. coefficient_at seq coding (block_way coding from.kind i) code (slice_index_or from.blocks i no_block) (scan_place coding.alternate_scan index))
      (λ i index. coefficient_at seq coding (block_way coding from.kind i) tally.target.code (slice_index_or blocks i no_block) (scan_place coding.alternate_scan index))
  pub small : tally.distortion ≤ 2 ^ 41

-- A macroblock stays as it is in a version but for its coefficients: it has no code, none is skipped before it there, the code in
-- force there is the one that it quantises by, and it has coefficients left or motion. So its head says there what it says in the
-- source but for coded_block_pattern (ISO/IEC 13818-2, 6.2.5).
abbrev pub has_stayed : Tally → VersionState → Macroblock → Bool
has_stayed tally state from =
    is_none from.code
    && (state.skipped == 0)
    && (state.version_code == tally.target.code)
    && not (is_coded_without_motion from.kind && (tally.pattern == 0))

-- macroblock_type under a head: the source's, but that a code and a pattern stand where the head has them
abbrev pub kind_under : Kind → Head → Kind
kind_under kind head = record kind { quant = is_some head.code; pattern = not (head.pattern == 0) }

-- a block without its coefficients
abbrev pub outline_of : Block → Block
outline_of block = record { dc = block.dc; pairs = record { items = [] } }

-- the macroblock of a version with this head, but without its coefficients: the source's motion and its DC coefficients
abbrev pub outline_under : PicCoding → Macroblock → Head → Macroblock
outline_under coding from head = record {
  skipped_before = head.skipped_before;
  kind = kind_under from.kind head;
  motion_type = from.motion_type;
  field_dct = has_dct_type coding (kind_under from.kind head) && from.field_dct;
  code = head.code;
  forward = from.forward;
  backward = from.backward;
  pattern = head.pattern;
  blocks = map outline_of from.blocks;
}

-- the macroblock that an outline stands for: the source's under the head and without coefficients, the lent one where it was written
-- whole, none where it is skipped
abbrev pub told_by : PicCoding → Macroblock → Macroblock → Outline → Option Macroblock
told_by coding from lent (Coded head) = Some (outline_under coding from head)
told_by coding from lent Kept = Some lent
told_by coding from lent Skipped = None

-- What becomes of a macroblock in a version, told by an outline of it: what is made is written in so many bits more than
-- the outline, and skipped where there is none. The state and the distortion are those of the step that makes it.
pub record IsOutlined (seq : SeqState) (coding : PicCoding) (inner : Bool) (from : Macroblock) (before behind : VersionState) (outlined : Outlined) (lent : Macroblock) : Type 0 where
  pub made : Option Macroblock
  pub at : IsCoarserAt seq coding before.m inner before.source_code before.version_code (Some from) made
  pub state : IsStateBehind from made before behind
  pub difference : outlined.distortion ≡ difference_of (coefficient_of_macroblock seq coding behind.source_code (Some from))
      (coefficient_of_macroblock seq coding behind.version_code made)
  pub bits : length (flat_map (written_macroblock coding) (option_to_list made))
      ≡ length (flat_map (written_macroblock coding) (option_to_list (told_by coding from lent outlined.outline))) + outlined.bits
  pub coded : is_some made ≡ is_some (told_by coding from lent outlined.outline)
  pub head : IfSome made (λ to. IfSome (told_by coding from lent outlined.outline) (λ told. (told.skipped_before ≡ to.skipped_before) × (told.kind ≡ to.kind) × (told.code ≡ to.code) × (told.pattern ≡ to.pattern)))
