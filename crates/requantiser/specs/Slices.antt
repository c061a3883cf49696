-- A slice of a coarser picture, compared with the source's address by address.
use Rattle.std.specs.Prelude.{◌≡◌, ◌+◌, ◌&&◌, ℕ, zero, suc, nat_lt, Option, unwrap_or, option_and_then, Bool}
use Rattle.std.specs.List.{sum_by}
use Rattle.quant_math.specs.Scales.{IsMappedCode}
use Rattle.syntax_types.specs.declared.macroblock.Macroblock.{Macroblock}
use Rattle.syntax_types.specs.declared.picture.PicCoding.{PicCoding}
use Rattle.syntax_types.specs.declared.picture.SeqState.{SeqState}
use Rattle.syntax_types.specs.declared.slice.Slice.{Slice}
use Rattle.picture_grammar.specs.Picture.{first_column}
use Rattle.requantiser.specs.Macroblocks.{IsCoarserAt}
use Rattle.requantiser.specs.Places.{item_at}

-- the macroblock at a column of the slice's row, or none where it is skipped or not of this slice (ISO/IEC 13818-2, 6.3.17)
abbrev pub macroblock_at : Slice → ℕ → Option Macroblock
macroblock_at slice column = item_at (λ m. m.skipped_before) 0 slice.macroblocks column

-- the column behind a slice's last macroblock
abbrev pub end_column : Slice → ℕ
end_column slice = sum_by (λ m. m.skipped_before + 1) slice.macroblocks

-- neither the first macroblock of a slice nor the last one stands at this column
abbrev pub is_inner : Slice → ℕ → Bool
is_inner slice column = nat_lt (first_column slice.macroblocks) column && nat_lt (column + 1) (end_column slice)

-- quantiser_scale_code of the macroblock at a column, if any
abbrev pub written_code : Slice → ℕ → Option ℕ
written_code slice column = option_and_then (λ m. m.code) (macroblock_at slice column)

-- quantiser_scale_code in force before a column: the last one that a macroblock before it has, else the slice's
-- (ISO/IEC 13818-2, 6.3.16 and 6.3.17)
abbrev pub code_before : Slice → ℕ → ℕ
code_before slice zero = slice.code
code_before slice (suc column) = unwrap_or (written_code slice column) (code_before slice column)

-- quantiser_scale_code in force in the macroblock at a column
abbrev pub code_at : Slice → ℕ → ℕ
code_at slice column = unwrap_or (written_code slice column) (code_before slice column)

-- the slice under coarser codes: the same row, the same information, and the mapped code; each macroblock as it must be
pub record IsCoarserSlice (seq : SeqState) (coding : PicCoding) (m : ℕ) (from to : Slice) : Type 0 where
  pub row : to.row ≡ from.row
  pub code : IsMappedCode coding.q_scale_type from.code m to.code
  pub info : to.info ≡ from.info
  pub macroblocks : (column : ℕ) → IsCoarserAt seq coding m (is_inner from column) (code_before from column) (code_before to column)
      (macroblock_at from column) (macroblock_at to column)
