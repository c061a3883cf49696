-- The pictures of a generated program (for their syntax see ISO/IEC 13818-2, 6.2).
use Rattle.std.specs.Prelude.{ℕ, Bool, false, None, List, [], ◌∷◌}
use Rattle.std.specs.List.{range_with_len}
use Rattle.syntax_types.specs.declared.macroblock.Macroblock.{Macroblock}
use Rattle.syntax_types.specs.declared.picture.Picture.{Picture}
use Rattle.syntax_types.specs.declared.slice.Slice.{Slice}
use Rattle.picture_grammar.specs.Written.{IsWritten}
use Rattle.program_maker.specs.declared.format.TheConstants.{COLUMNS, ROWS, SLICE_CODE}
use Rattle.program_maker.specs.Draws.{Drawn, nothing_drawn, ◌>>=◌, draw_each}
use Rattle.program_maker.specs.Macroblocks.{drawn_macroblock}
use Rattle.program_maker.specs.Heads.{sequence_state, coding_of, is_predicted, head_of}

-- the macroblocks of a row, of a P-picture or an I-picture
unfoldable pub drawn_row : Bool → Drawn (List Macroblock)
drawn_row predicted = draw_each (range_with_len 0 COLUMNS) (λ _. drawn_macroblock predicted)

-- a slice is a whole macroblock row
unfoldable pub drawn_slice : Bool → ℕ → Drawn Slice
drawn_slice predicted row = do
  macroblocks ← drawn_row predicted
  nothing_drawn (record { row = row; code = SLICE_CODE; info = None; macroblocks = macroblocks })

-- the slices of a picture in order
unfoldable pub drawn_slices : Bool → Drawn (List Slice)
drawn_slices predicted = draw_each (range_with_len 0 ROWS) (drawn_slice predicted)

-- picture k with its slices
abbrev pub picture_of : ℕ → List Slice → Picture
picture_of k slices = record {
  seq = sequence_state;
  coding = coding_of (is_predicted k);
  head = head_of k;
  slices = slices;
  sequence_end = false;
}

-- picture k
unfoldable pub drawn_picture : ℕ → Drawn Picture
drawn_picture k = do
  slices ← drawn_slices (is_predicted k)
  nothing_drawn (picture_of k slices)

-- the first n pictures
abbrev pub drawn_pictures : ℕ → Drawn (List Picture)
drawn_pictures n = draw_each (range_with_len 0 n) drawn_picture

-- the bytes of these pictures, one list for each
abbrev pub AreWritten : List Picture → List (List ℕ) → Type 0
AreWritten [] [] = Unit {0}
AreWritten [] (_ ∷ _) = ⊥
AreWritten (_ ∷ _) [] = ⊥
AreWritten (picture ∷ pictures) (bytes ∷ others) = IsWritten picture bytes × AreWritten pictures others
