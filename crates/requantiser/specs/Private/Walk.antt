-- How the version is made: one macroblock after another, in the order of the stream.
use Rattle.std.specs.Prelude.{
  ◌+◌,
  ◌-◌,
  ◌*◌,
  ◌==◌,
  ◌&&◌,
  ◌||◌,
  ℕ,
  not,
  nat_le,
  ℤ,
  unsigned_abs,
  find,
  Option,
  Some,
  None,
  List,
  [],
  ◌∷◌,
  map,
  unwrap_or,
  is_some,
  Bool,
  true,
  false,
  slice_index_or,
  slice_set,
  if◌then◌else◌,
}
use Rattle.std.specs.Int.{int_signum}
use Rattle.std.specs.List.{range_with_len, list_all}
use Rattle.quant_math.specs.declared.scales.TheConstants.{LAST_CODE, WHOLE_RATIO}
use Rattle.quant_math.specs.Levels.{coarser_level}
use Rattle.quant_math.specs.Scales.{quantiser_scale}
use Rattle.syntax_types.specs.declared.block.Block.{Block}
use Rattle.syntax_types.specs.declared.block.BlockWay.{BlockWay}
use Rattle.syntax_types.specs.declared.block.RunLevel.{RunLevel}
use Rattle.syntax_types.specs.declared.macroblock.TheConstants.{BLOCKS}
use Rattle.syntax_types.specs.declared.macroblock.Kind.{Kind}
use Rattle.syntax_types.specs.declared.macroblock.Macroblock.{Macroblock}
use Rattle.syntax_types.specs.declared.picture.PicCoding.{PicCoding}
use Rattle.syntax_types.specs.declared.picture.SeqState.{SeqState}
use Rattle.syntax_types.specs.declared.slice.Slice.{Slice}
use Rattle.picture_grammar.specs.Block.{first_place}
use Rattle.picture_grammar.specs.Macroblock.{block_way, has_dct_type, is_coded, no_block}
use Rattle.requantiser.specs.declared.head.Head.{Head}
use Rattle.requantiser.specs.Blocks.{no_blocks, block_of_one}
use Rattle.requantiser.specs.Levels.{weight_at, scale_of}
use Rattle.requantiser.specs.Macroblocks.{is_empty_block, pattern_of, is_coded_without_motion}

-- the mapped code
abbrev pub mapped_code : Bool → ℕ → ℕ → ℕ
mapped_code q_scale_type m code =
    unwrap_or (find (λ candidate. nat_le (quantiser_scale q_scale_type code * m) (quantiser_scale q_scale_type candidate * WHOLE_RATIO)) (range_with_len 1 (LAST_CODE - 1))) LAST_CODE

-- the level that a level at a place of the scan becomes
abbrev pub new_level : SeqState → PicCoding → BlockWay → ℕ → ℕ → ℕ → ℤ → ℤ
new_level seq coding way code mapped place level =
    coarser_level level (weight_at seq coding way.intra place) (scale_of coding code) (scale_of coding mapped) way.intra

-- the coefficients from a place on, with so many zeros waiting before it
abbrev pub coarsened_pairs : (ℕ → ℤ → ℤ) → ℕ → ℕ → List RunLevel → List RunLevel
coarsened_pairs new place waiting [] = []
coarsened_pairs new place waiting (pair ∷ pairs) =
    elim (unsigned_abs (new (place + pair.run) pair.level) == 0) [
      | true ↦ coarsened_pairs new (place + pair.run + 1) (waiting + (pair.run + 1)) pairs
      | false ↦ record { run = waiting + pair.run; level = new (place + pair.run) pair.level } ∷ coarsened_pairs new (place + pair.run + 1) 0 pairs
    ]

-- a coefficient behind so many zeros, unless it is 0
abbrev pub kept_pair : ℕ → ℤ → List RunLevel
kept_pair zeros level = elim (unsigned_abs level == 0) [ true ↦ [] | false ↦ record { run = zeros; level = level } ∷ [] ]

-- the zeros that wait behind a level that so many zeros precede
abbrev pub zeros_behind : ℕ → ℤ → ℕ
zeros_behind zeros level = elim (unsigned_abs level == 0) [ true ↦ zeros + 1 | false ↦ 0 ]

abbrev pub coarsened_block : SeqState → PicCoding → BlockWay → ℕ → ℕ → Block → Block
coarsened_block seq coding way code mapped block = record {
  dc = block.dc;
  pairs = record { items = coarsened_pairs (new_level seq coding way code mapped) (first_place way) 0 block.pairs.items };
}

abbrev pub coarsened_blocks : SeqState → PicCoding → Kind → ℕ → ℕ → List Block → List Block
coarsened_blocks seq coding kind code mapped blocks =
    map (λ i. coarsened_block seq coding (block_way coding kind i) code mapped (slice_index_or blocks i no_block)) (range_with_len 0 BLOCKS)

-- the first coefficient of a block with a level of 1
abbrev pub first_of : Block → Block
first_of block = elim block.pairs.items [ [] ↦ no_block | pair ∷ pairs ↦ block_of_one pair.run (int_signum pair.level) ]

-- the index of the first block that is coded
abbrev pub first_coded : Macroblock → ℕ
first_coded m = unwrap_or (find (λ i. is_coded m.kind m.pattern i) (range_with_len 0 BLOCKS)) 0

abbrev pub kept_blocks : Macroblock → List Block
kept_blocks m = slice_set no_blocks (first_coded m) (first_of (slice_index_or m.blocks (first_coded m) no_block))

abbrev pub are_empty : List Block → Bool
are_empty blocks = list_all is_empty_block blocks

-- the head with this pattern behind so many skipped macroblocks, where the code before is `before` and its own would be
-- `mapped`, which stands only where there are coefficients
abbrev pub head_with : Bool → ℕ → ℕ → ℕ → ℕ → Head
head_with intra mapped before skipped pattern = record {
  skipped_before = skipped;
  code = if (intra || not (pattern == 0)) && not (mapped == before) then Some mapped else None;
  pattern = pattern;
}

-- the macroblock with this pattern and these blocks, behind so many skipped ones
abbrev pub with_pattern : PicCoding → ℕ → ℕ → ℕ → ℕ → Macroblock → List Block → Macroblock
with_pattern coding mapped before skipped pattern m blocks =
    let has = m.kind.intra || not (pattern == 0) in
    let code = if has && not (mapped == before) then Some mapped else None in
    let kind : Kind = record m.kind { quant = is_some code; pattern = not (pattern == 0) } in
    record {
      skipped_before = skipped;
      kind = kind;
      motion_type = m.motion_type;
      field_dct = has_dct_type coding kind && m.field_dct;
      code = code;
      forward = m.forward;
      backward = m.backward;
      pattern = pattern;
      blocks = blocks;
    }

-- the same with the pattern of its blocks
abbrev pub with_blocks : PicCoding → ℕ → ℕ → ℕ → Macroblock → List Block → Macroblock
with_blocks coding mapped before skipped m blocks = with_pattern coding mapped before skipped (if m.kind.intra then 0 else pattern_of blocks) m blocks

-- the blocks that stand in the coarser picture for those of a macroblock, or none where it is skipped
abbrev pub made_blocks : SeqState → PicCoding → Bool → ℕ → ℕ → Macroblock → Option (List Block)
made_blocks seq coding inner code mapped from =
    let blocks = coarsened_blocks seq coding from.kind code mapped from.blocks in
    elim (is_coded_without_motion from.kind && are_empty blocks) [
      | false ↦ Some blocks
      | true ↦ elim inner [ true ↦ None | false ↦ Some (kept_blocks from) ]
    ]

-- what becomes of a macroblock, where this code is in force in it, and that one before it in the coarser picture, behind
-- so many skipped ones
abbrev pub coarsened_macroblock : SeqState → PicCoding → ℕ → Bool → ℕ → ℕ → ℕ → Macroblock → Option Macroblock
coarsened_macroblock seq coding m inner code before skipped from =
    let mapped = mapped_code coding.q_scale_type m code in
    let blocks = coarsened_blocks seq coding from.kind code mapped from.blocks in
    elim (is_coded_without_motion from.kind && are_empty blocks) [
      | false ↦ Some (with_blocks coding mapped before skipped from blocks)
      | true ↦ elim inner [
        | true ↦ None
        | false ↦ Some (with_blocks coding mapped before skipped from (kept_blocks from))
      ]
    ]

abbrev pub is_none : List Macroblock → Bool
is_none [] = true
is_none (m ∷ ms) = false

-- the macroblocks of a slice from one on: whether it is the first, the codes in force before it in the source and in
-- the coarser picture, and how many skipped ones wait before it there
abbrev pub coarsened_macroblocks : SeqState → PicCoding → ℕ → Bool → ℕ → ℕ → ℕ → List Macroblock → List Macroblock
coarsened_macroblocks seq coding m first code before skipped [] = []
coarsened_macroblocks seq coding m first code before skipped (from ∷ later) =
    elim (coarsened_macroblock seq coding m (not first && not (is_none later)) (unwrap_or from.code code) before (skipped + from.skipped_before) from) [
      | None ↦ coarsened_macroblocks seq coding m false (unwrap_or from.code code) before (skipped + (from.skipped_before + 1)) later
      | Some to ↦ to ∷ coarsened_macroblocks seq coding m false (unwrap_or from.code code) (unwrap_or to.code before) 0 later
    ]

unfoldable pub coarsened_slice : SeqState → PicCoding → ℕ → Slice → Slice
coarsened_slice seq coding m slice = record {
  row = slice.row;
  code = mapped_code coding.q_scale_type m slice.code;
  info = slice.info;
  macroblocks = coarsened_macroblocks seq coding m true slice.code (mapped_code coding.q_scale_type m slice.code) 0 slice.macroblocks;
}
