-- Worked examples of slices, computed from the definitions.
use Rattle.std.proofs.Common.{◌≡◌, ℕ, pos, Option, Some, None, List, [], ◌∷◌, refl, true}
use Rattle.prefix_codes.specs.Entry.{printed_bits}
use Rattle.syntax_types.specs.declared.macroblock.Macroblock.{Macroblock}
use Rattle.syntax_types.specs.declared.slice.Slice.{Slice}
use Rattle.syntax_types.specs.declared.slice.SliceInfo.{SliceInfo}
use Rattle.picture_grammar.specs.Refusal.Refusal.{BadType, BadAddress}
use Rattle.picture_grammar.specs.Slice.{slice}
use Rattle.picture_grammar.specs.Written.{written_macroblock, written_slice}
use Rattle.picture_laws.proofs.Computing.{said, answers}
use Rattle.picture_laws.proofs.DecidedPictures.{decided-slice}
use Rattle.picture_laws.proofs.ExampleValues.{coded, small, still, moved, patterned}

abbrev row_0 : ℕ → Option SliceInfo → List Macroblock → Slice
row_0 code info macroblocks = record { row = 0; code = code; info = info; macroblocks = macroblocks }

-- vectors of codes 0 in a frame
abbrev pub forward : ℕ → Macroblock
forward skipped = moved skipped 2 (still None None ∷ [])

-- ---- forward, one pair without vectors, forward; and coarser, with the one between skipped

abbrev three : Slice
three = row_0 1 None (forward 0 ∷ patterned 0 None (pos 1) ∷ forward 0 ∷ [])

three-spelled : (slice small (coded 2 3 true) 0).Spells three (printed_bits "00001 0 1 001 1 1 1 01 1010 10 10 1 001 1 1") []
unfolding answers
three-spelled = (said (decided-slice small (coded 2 3 true) 0) (printed_bits "00001 0 1 001 1 1 1 01 1010 10 10 1 001 1 1") refl).0

three-written : written_slice (coded 2 3 true) three ≡ printed_bits "00001 0 1 001 1 1 1 01 1010 10 10 1 001 1 1"
unfolding answers written_slice written_macroblock
three-written = refl

abbrev three-coarser : Slice
three-coarser = row_0 2 None (forward 0 ∷ forward 1 ∷ [])

three-coarser-spelled : (slice small (coded 2 3 true) 0).Spells three-coarser (printed_bits "00010 0 1 001 1 1 011 001 1 1") []
unfolding answers
three-coarser-spelled = (said (decided-slice small (coded 2 3 true) 0) (printed_bits "00010 0 1 001 1 1 011 001 1 1") refl).0

three-coarser-written : written_slice (coded 2 3 true) three-coarser ≡ printed_bits "00010 0 1 001 1 1 011 001 1 1"
unfolding answers written_slice written_macroblock
three-coarser-written = refl

-- ---- without the last one

abbrev two : ℕ → Slice
two code = row_0 code None (forward 0 ∷ patterned 0 None (pos 1) ∷ [])

two-spelled : (slice small (coded 2 3 true) 0).Spells (two 2) (printed_bits "00010 0 1 001 1 1 1 01 1010 10 10") []
unfolding answers
two-spelled = (said (decided-slice small (coded 2 3 true) 0) (printed_bits "00010 0 1 001 1 1 1 01 1010 10 10") refl).0

two-written : written_slice (coded 2 3 true) (two 2) ≡ printed_bits "00010 0 1 001 1 1 1 01 1010 10 10"
unfolding answers written_slice written_macroblock
two-written = refl

-- ---- a quantiser code of its own, and a greater level

abbrev four : Slice
four = row_0 1 None (forward 0 ∷ patterned 0 (Some 4) (pos 1) ∷ patterned 0 None (pos 9) ∷ forward 0 ∷ [])

four-spelled : (slice small (coded 2 3 true) 0).Spells four (printed_bits "00001 0 1 001 1 1 1 00001 00100 1010 10 10 1 01 1010 0000000110000 10 1 001 1 1") []
unfolding answers
four-spelled = (said (decided-slice small (coded 2 3 true) 0) (printed_bits "00001 0 1 001 1 1 1 00001 00100 1010 10 10 1 01 1010 0000000110000 10 1 001 1 1") refl).0

four-written : written_slice (coded 2 3 true) four ≡ printed_bits "00001 0 1 001 1 1 1 00001 00100 1010 10 10 1 01 1010 0000000110000 10 1 001 1 1"
unfolding answers written_slice written_macroblock
four-written = refl

abbrev four-coarser : Slice
four-coarser = row_0 2 None (forward 0 ∷ patterned 1 (Some 8) (pos 4) ∷ forward 0 ∷ [])

four-coarser-spelled : (slice small (coded 2 3 true) 0).Spells four-coarser (printed_bits "00010 0 1 001 1 1 011 00001 01000 1010 00001100 10 1 001 1 1") []
unfolding answers
four-coarser-spelled = (said (decided-slice small (coded 2 3 true) 0) (printed_bits "00010 0 1 001 1 1 011 00001 01000 1010 00001100 10 1 001 1 1") refl).0

four-coarser-written : written_slice (coded 2 3 true) four-coarser ≡ printed_bits "00010 0 1 001 1 1 011 00001 01000 1010 00001100 10 1 001 1 1"
unfolding answers written_slice written_macroblock
four-coarser-written = refl

-- ---- information: intra_slice, seven reserved bits and one byte, behind the extension flag

abbrev told : Slice
told = row_0 1 (Some (record { intra_slice = true; reserved = 3; bytes = 170 ∷ [] })) (forward 2 ∷ [])

told-spelled : (slice small (coded 2 3 true) 0).Spells told (printed_bits "00001 1 1 0000011 1 10101010 0 010 001 1 1") []
unfolding answers
told-spelled = (said (decided-slice small (coded 2 3 true) 0) (printed_bits "00001 1 1 0000011 1 10101010 0 010 001 1 1") refl).0

told-written : written_slice (coded 2 3 true) told ≡ printed_bits "00001 1 1 0000011 1 10101010 0 010 001 1 1"
unfolding answers written_slice written_macroblock
told-written = refl

-- ---- where a slice closes: at 23 zero bits, which it leaves

closed : (slice small (coded 2 3 true) 0).Spells (row_0 1 None (forward 0 ∷ [])) (printed_bits "00001 0 1 001 1 1 00000 00000 00000 00000 000 1") (printed_bits "00000 00000 00000 00000 000 1")
unfolding answers
closed = (said (decided-slice small (coded 2 3 true) 0) (printed_bits "00001 0 1 001 1 1 00000 00000 00000 00000 000 1") refl).0

-- 22 of them are no close, and no address
not_closed : (slice small (coded 2 3 true) 0).Refuses (printed_bits "00001 0 1 001 1 1 00000 00000 00000 00000 00 1") BadAddress (printed_bits "00000 00000 00000 00000 00 1")
unfolding answers
not_closed = said (decided-slice small (coded 2 3 true) 0) (printed_bits "00001 0 1 001 1 1 00000 00000 00000 00000 00 1") refl

-- a quantiser code 0
code_0 : (slice small (coded 2 3 true) 0).Refuses (printed_bits "00000 0 1 001 1 1") BadType (printed_bits "00000 0 1 001 1 1")
unfolding answers
code_0 = said (decided-slice small (coded 2 3 true) 0) (printed_bits "00000 0 1 001 1 1") refl
