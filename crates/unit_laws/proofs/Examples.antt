-- Where start codes stand, at worked examples.
use Rattle.std.proofs.Common.{◌≡◌, None, ℕ, [], ◌∷◌, true, refl}
use Rattle.syntax_types.specs.declared.picture.Picture.{Picture}
use Rattle.syntax_types.specs.declared.slice.Slice.{Slice}
use Rattle.picture_laws.proofs.ExampleValues.{coded, small}
use Rattle.unit_laws.specs.OwnCodes.{codes_from, own_codes}

-- slices of the rows 0 and 1, zero bytes behind each, and the sequence end code
alone : codes_from (0x00 ∷ 0x00 ∷ 0x01 ∷ 0x01 ∷ 0xAA ∷ 0x00 ∷ 0x00 ∷ 0x00 ∷ 0x01 ∷ 0x02 ∷ 0xBB ∷ 0x00 ∷ 0x00 ∷ 0x01 ∷ 0xB7 ∷ 0x00 ∷ []) 0 ≡ 0x01 ∷ 0x02 ∷ 0xB7 ∷ []
alone = refl

-- a third code, inside the slice of the second row, that looks like one more slice's
inside : codes_from (0x00 ∷ 0x00 ∷ 0x01 ∷ 0x01 ∷ 0xAA ∷ 0x00 ∷ 0x00 ∷ 0x01 ∷ 0x02 ∷ 0xBB ∷ 0x00 ∷ 0x00 ∷ 0x01 ∷ 0x02 ∷ 0xCC ∷ []) 0 ≡ 0x01 ∷ 0x02 ∷ 0x02 ∷ []
inside = refl

-- 00 00 01 at the end, with no byte behind it
at_the_end : codes_from (0x00 ∷ 0x00 ∷ 0x01 ∷ 0x01 ∷ 0xAA ∷ 0x00 ∷ 0x00 ∷ 0x01 ∷ []) 0 ≡ 0x01 ∷ 0x00 ∷ []
at_the_end = refl

-- only those from a place on
from_a_place : codes_from (0x00 ∷ 0x00 ∷ 0x01 ∷ 0x00 ∷ 0x55 ∷ 0x00 ∷ 0x00 ∷ 0x01 ∷ 0x01 ∷ 0xAA ∷ []) 4 ≡ 0x01 ∷ []
from_a_place = refl

-- a picture of two slices and a sequence end code, whose head is one byte, has these codes of its own, and its bytes behind the head have no others
abbrev slice_of : ℕ → Slice
slice_of row = record { row = row; code = 2; info = None; macroblocks = [] }

abbrev picture : Picture
picture = record { seq = small; coding = coded 2 3 true; head = 0xAB ∷ []; slices = slice_of 0 ∷ slice_of 1 ∷ []; sequence_end = true }

own : own_codes picture ≡ 0x01 ∷ 0x02 ∷ 0xB7 ∷ []
own = refl

behind_head : codes_from
    (0xAB ∷ 0x00 ∷ 0x00 ∷ 0x01 ∷ 0x01 ∷ 0x12 ∷ 0x79 ∷ 0xE7 ∷ 0x00 ∷ 0x00 ∷ 0x01 ∷ 0x02 ∷ 0x10 ∷ 0xCE ∷ 0x67 ∷ 0x33 ∷ 0x80 ∷ 0x00 ∷ 0x00 ∷ 0x01 ∷ 0xB7 ∷ []) 1
    ≡ own_codes picture
behind_head = refl
