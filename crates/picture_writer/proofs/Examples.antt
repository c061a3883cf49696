-- A worked picture, computed from the definitions: a slice that ends at a whole byte, one that lacks seven bits of it, and a
-- sequence end code.
use Rattle.std.proofs.Common.{◌≡◌, ◌++◌, None, [], ◌∷◌, ℕ, true, refl}
use Rattle.syntax_types.specs.declared.macroblock.Macroblock.{Macroblock}
use Rattle.syntax_types.specs.declared.picture.Picture.{Picture}
use Rattle.syntax_types.specs.declared.slice.Slice.{Slice}
use Rattle.prefix_codes.specs.Entry.{printed_bits}
use Rattle.picture_grammar.specs.Written.{written_macroblock, written_slice, written_picture}
use Rattle.picture_laws.proofs.Computing.{answers}
use Rattle.picture_laws.proofs.ExampleValues.{coded, moved, small, still}
use Rattle.picture_laws.proofs.ExampleSlices.{forward}

abbrev whole : Slice
whole = record { row = 0; code = 2; info = None; macroblocks = forward 0 ∷ forward 0 ∷ forward 0 ∷ [] }

abbrev lacking : Slice
lacking = record { row = 1; code = 2; info = None; macroblocks = forward 3 ∷ forward 3 ∷ forward 3 ∷ [] }

abbrev picture : Picture
picture = record { seq = small; coding = coded 2 3 true; head = 0xAB ∷ []; slices = whole ∷ lacking ∷ []; sequence_end = true }

picture_written : written_picture picture
    ≡ printed_bits "10101011"
    ++ printed_bits "00000000 00000000 00000001 00000001 00010 0 1 001 1 1 1 001 1 1 1 001 1 1"
    ++ printed_bits "00000000 00000000 00000001 00000010 00010 0 0011 001 1 1 0011 001 1 1 0011 001 1 1 0000000"
    ++ printed_bits "00000000 00000000 00000001 10110111"
unfolding answers written_macroblock written_slice written_picture
picture_written = refl
