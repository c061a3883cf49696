-- The levels of a block by their place, and what they are weighted with (ISO/IEC 13818-2, 7.2 to 7.4).
use Rattle.std.specs.Prelude.{◌==◌, ℕ, ℤ, pos, Bool, slice_index, if◌then◌else◌}
use Rattle.std.specs.Option.{option_map_or}
use Rattle.std.specs.List.{position_or_len}
use Rattle.quant_math.specs.Levels.{coefficient_of}
use Rattle.quant_math.specs.Scales.{quantiser_scale}
use Rattle.quant_math.specs.Scans.{scan_order}
use Rattle.syntax_types.specs.declared.block.Block.{Block}
use Rattle.syntax_types.specs.declared.block.BlockWay.{BlockWay}
use Rattle.syntax_types.specs.declared.picture.PicCoding.{PicCoding}
use Rattle.syntax_types.specs.declared.picture.SeqState.{SeqState}
use Rattle.picture_grammar.specs.Block.{first_place}
use Rattle.picture_grammar.specs.Picture.{AreWeights}
use Rattle.requantiser.specs.Places.{item_at}

-- the level at a place of the scan, 0 where none stands; the DC coefficient of an intra block is none of them
-- (ISO/IEC 13818-2, 7.2.2)
abbrev pub level_at : BlockWay → Block → ℕ → ℤ
level_at way block place =
    option_map_or (λ pair. pair.level) (item_at (λ pair. pair.run) (first_place way) block.pairs.items place) (pos 0)

-- the place of the scan at which the coefficient with a raster index (row * 8 + column) stands (ISO/IEC 13818-2, 7.3)
abbrev pub scan_place : Bool → ℕ → ℕ
scan_place alternate index = position_or_len (λ other. other == index) (scan_order alternate)

-- the weight of a place of the scan, by the matrix of intra or non-intra blocks (ISO/IEC 13818-2, 7.3 and 7.4.2.1)
abbrev pub weight_at : SeqState → PicCoding → Bool → ℕ → ℕ
weight_at seq coding intra place =
    slice_index (if intra then seq.intra else seq.non_intra) (slice_index (scan_order coding.alternate_scan) place)

-- both matrices of a state have 64 weights, none of them 0 (ISO/IEC 13818-2, 6.3.11)
pub record HasWeights (seq : SeqState) : Type 0 where
  pub intra : AreWeights seq.intra
  pub non_intra : AreWeights seq.non_intra

-- quantiser_scale of a code, by the picture's q_scale_type (ISO/IEC 13818-2, 7.4.2.2)
abbrev pub scale_of : PicCoding → ℕ → ℕ
scale_of coding code = quantiser_scale coding.q_scale_type code

-- the coefficient at a place of the scan, under a code; 0 for the DC coefficient of an intra block (ISO/IEC 13818-2, 7.4.2)
abbrev pub coefficient_at : SeqState → PicCoding → BlockWay → ℕ → Block → ℕ → ℤ
coefficient_at seq coding way code block place =
    coefficient_of (level_at way block place) (weight_at seq coding way.intra place) (scale_of coding code) way.intra
