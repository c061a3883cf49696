-- How far the coefficients of a picture are from those of another one.
use Rattle.std.specs.Prelude.{◌*◌, ◌-◌, ◌-ℤ◌, ◌&&◌, ℕ, ℤ, pos, unsigned_abs, nat_le, is_some, find, slice_index_or, Bool, Option}
use Rattle.std.specs.Option.{option_map_or}
use Rattle.std.specs.List.{sum_by, range_with_len}
use Rattle.syntax_types.specs.declared.block.TheConstants.{BLOCK_PLACES}
use Rattle.syntax_types.specs.declared.macroblock.TheConstants.{BLOCKS}
use Rattle.syntax_types.specs.declared.macroblock.Macroblock.{Macroblock}
use Rattle.syntax_types.specs.declared.picture.PicCoding.{PicCoding}
use Rattle.syntax_types.specs.declared.picture.Picture.{Picture}
use Rattle.syntax_types.specs.declared.picture.SeqState.{SeqState}
use Rattle.syntax_types.specs.declared.slice.Slice.{Slice}
use Rattle.picture_grammar.specs.Macroblock.{block_way, no_block}
use Rattle.picture_grammar.specs.Picture.{rows}
use Rattle.picture_grammar.specs.Slice.{columns}
use Rattle.requantiser.specs.Levels.{coefficient_at, scan_place}
use Rattle.requantiser.specs.Slices.{macroblock_at, code_at}

-- the slice has a macroblock that isn't skipped at this address (macroblock_address, ISO/IEC 13818-2, 6.3.17)
abbrev pub has_address : SeqState → ℕ → Slice → Bool
has_address seq address slice = nat_le (slice.row * columns seq) address && is_some (macroblock_at slice (address - slice.row * columns seq))

-- The coefficient of a macroblock under the code in force in it, in one of its blocks, at a raster index, which is its
-- place in the block whatever the picture's scan is; 0 where none is coded, and where the macroblock is skipped, which
-- is `None` (ISO/IEC 13818-2, 7.3).
abbrev pub coefficient_of_macroblock : SeqState → PicCoding → ℕ → Option Macroblock → ℕ → ℕ → ℤ
coefficient_of_macroblock seq coding code macroblock i index = option_map_or
    (λ m. coefficient_at seq coding (block_way coding m.kind i) code (slice_index_or m.blocks i no_block) (scan_place coding.alternate_scan index)) macroblock (pos 0)

-- the coefficient of a macroblock of a slice at a column, 0 where none is coded
abbrev pub coefficient_in : Picture → Slice → ℕ → ℕ → ℕ → ℤ
coefficient_in picture slice column i index =
    coefficient_of_macroblock picture.seq picture.coding (code_at slice column) (macroblock_at slice column) i index

-- the coefficient of a picture at an address, in one of the blocks, at a raster index; 0 where none is coded, and for the
-- DC coefficient of an intra block
abbrev pub coefficient_of_picture : Picture → ℕ → ℕ → ℕ → ℤ
coefficient_of_picture picture address i index = option_map_or
    (λ slice. coefficient_in picture slice (address - slice.row * columns picture.seq) i index)
    (find (has_address picture.seq address) picture.slices) (pos 0)

-- the square of a difference
abbrev pub squared_difference : ℤ → ℤ → ℕ
squared_difference a b = unsigned_abs (a -ℤ b) * unsigned_abs (a -ℤ b)

-- the sum of the squares of the differences of the coefficients that two macroblocks have by block and raster index
unfoldable pub difference_of : (ℕ → ℕ → ℤ) → (ℕ → ℕ → ℤ) → ℕ
difference_of f g = sum_by (λ i. sum_by (λ index. squared_difference (f i index) (g i index)) (range_with_len 0 BLOCK_PLACES)) (range_with_len 0 BLOCKS)

-- the sum of the squares of the differences, over all coefficients of the picture but the DC coefficients of intra blocks
unfoldable pub distortion_between : Picture → Picture → ℕ
distortion_between from to =
    sum_by (λ address. difference_of (coefficient_of_picture from address) (coefficient_of_picture to address)) (range_with_len 0 (rows from.seq from.coding * columns from.seq))
