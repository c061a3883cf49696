-- How far the coefficients of blocks move when their levels become coarser, one coefficient after the other.
use Rattle.std.specs.Prelude.{◌+◌, ℕ, ℤ, slice_index, slice_index_or, Bool, List, [], ◌∷◌, if◌then◌else◌}
use Rattle.quant_math.specs.Levels.{coarser_level, coefficient_of}
use Rattle.quant_math.specs.Scans.{scan_order}
use Rattle.syntax_types.specs.declared.block.Block.{Block}
use Rattle.syntax_types.specs.declared.block.BlockWay.{BlockWay}
use Rattle.syntax_types.specs.declared.block.RunLevel.{RunLevel}
use Rattle.syntax_types.specs.declared.macroblock.Kind.{Kind}
use Rattle.syntax_types.specs.declared.picture.PicCoding.{PicCoding}
use Rattle.syntax_types.specs.declared.picture.SeqState.{SeqState}
use Rattle.picture_grammar.specs.Macroblock.{block_way, no_block}
use Rattle.requantiser.specs.Distortion.{squared_difference}
use Rattle.requantiser.specs.Levels.{coefficient_at, scan_place, scale_of, weight_at}
use Rattle.requantiser.specs.Private.Walk.{coarsened_pairs}

-- the weight of a place of the scan in a matrix
abbrev pub weight_in : List ℕ → Bool → ℕ → ℕ
weight_in weights alternate place = slice_index weights (slice_index (scan_order alternate) place)

-- the square of the difference between the coefficient of a level and that of the coarser level
abbrev pub level_change : ℤ → ℕ → ℕ → ℕ → Bool → ℕ
level_change level weight from to intra =
    squared_difference (coefficient_of level weight from intra) (coefficient_of (coarser_level level weight from to intra) weight to intra)

-- the level that a level becomes at a place of the scan, under other scales
abbrev pub new_level_in : List ℕ → Bool → Bool → ℕ → ℕ → ℕ → ℤ → ℤ
new_level_in weights alternate intra from to place level = coarser_level level (weight_in weights alternate place) from to intra

-- the block whose levels become these
abbrev pub rescaled_block : List ℕ → Bool → Bool → ℕ → ℕ → Block → Block
rescaled_block weights alternate intra from to block = record {
  dc = block.dc;
  pairs = record { items = coarsened_pairs (new_level_in weights alternate intra from to) (if intra then 1 else 0) 0 block.pairs.items };
}

-- how far its coefficient moves
abbrev pub change_in : List ℕ → Bool → Bool → ℕ → ℕ → ℕ → ℤ → ℕ
change_in weights alternate intra from to place level = level_change level (weight_in weights alternate place) from to intra

-- the same in a block
abbrev pub block_change : SeqState → PicCoding → BlockWay → ℕ → ℕ → ℕ → ℤ → ℕ
block_change seq coding way code mapped place level =
    level_change level (weight_at seq coding way.intra place) (scale_of coding code) (scale_of coding mapped) way.intra

-- the sum over the coefficients from a place on
abbrev pub pair_changes : (ℕ → ℤ → ℕ) → ℕ → List RunLevel → ℕ
pair_changes change place [] = 0
pair_changes change place (pair ∷ pairs) = change (place + pair.run) pair.level + pair_changes change (place + pair.run + 1) pairs

-- the coefficient of the blocks of a macroblock of this kind, under the code in force in it, in one of them, at a raster index
abbrev pub coefficient_of_blocks : SeqState → PicCoding → Kind → ℕ → List Block → ℕ → ℕ → ℤ
coefficient_of_blocks seq coding kind code blocks i index =
    coefficient_at seq coding (block_way coding kind i) code (slice_index_or blocks i no_block) (scan_place coding.alternate_scan index)
