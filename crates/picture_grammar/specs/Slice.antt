-- Slices (ISO/IEC 13818-2, 6.2.4 and 6.3.16).
use Rattle.std.specs.Prelude.{◌≡◌, ◌⊎◌, ◌+◌, ◌-◌, ◌/◌, ℕ, Option, List, [], ◌∷◌, length, replicate, true, false}
use Rattle.std.specs.List.{sum_by}
use Rattle.bit_lists.specs.Bits.{IsPrefix}
use Rattle.syntax_types.specs.declared.macroblock.Macroblock.{Macroblock}
use Rattle.syntax_types.specs.declared.picture.PicCoding.{PicCoding}
use Rattle.syntax_types.specs.declared.picture.SeqState.{SeqState}
use Rattle.syntax_types.specs.declared.slice.Slice.{Slice}
use Rattle.syntax_types.specs.declared.slice.SliceInfo.{SliceInfo}
use Rattle.picture_grammar.specs.declared.limits.TheConstants.{MACROBLOCK_SIZE, SLICE_CLOSING_BITS}
use Rattle.picture_grammar.specs.Grammar.{Grammar, done, ◌>>=◌, optional, if_next, many, Next, more_of, one_item_more}
use Rattle.picture_grammar.specs.Grammar.Next.{last}
use Rattle.picture_grammar.specs.Element.{uimsbf, one_flag}
use Rattle.picture_grammar.specs.Macroblock.{macroblock, quantiser_scale_code}

-- ---- the slice header

-- A bit 1 and a byte, or the bit 0 behind the last one: extra_bit_slice and extra_information_slice (6.2.4), or
-- extra_bit_picture and extra_information_picture (6.2.3)
abbrev pub extra_information : List ℕ → Grammar (Next ℕ (Unit {0}))
extra_information before = do
  another ← one_flag
  byte ← optional another (uimsbf 8 [])
  done (more_of byte)

-- what stands behind intra_slice_flag
abbrev pub slice_extension : Grammar SliceInfo
slice_extension = do
  intra_slice ← one_flag
  reserved ← uimsbf 7 []
  information ← many extra_information
  done (record { intra_slice = intra_slice; reserved = reserved; bytes = information.0 })

-- intra_slice_flag and what it calls for: without it that bit is extra_bit_slice
abbrev pub slice_info : Grammar (Option SliceInfo)
slice_info = do
  extended ← one_flag
  optional extended slice_extension

-- ---- the macroblocks of a slice

-- mb_width (6.3.3)
abbrev pub columns : SeqState → ℕ
columns seq = (seq.width + (MACROBLOCK_SIZE - 1)) / MACROBLOCK_SIZE

-- the columns behind these macroblocks
abbrev pub columns_left : SeqState → List Macroblock → ℕ
columns_left seq macroblocks = columns seq - sum_by (λ m. m.skipped_before + 1) macroblocks

-- 23 zero bits, or nothing but zero bits to the unit's end, close a slice
abbrev pub ClosesSlice : List ℕ → Type 0
ClosesSlice bits = IsPrefix (replicate SLICE_CLOSING_BITS 0) bits ⊎ (bits ≡ replicate (length bits) 0)

-- the first macroblock; behind it another one, or the close of the slice
abbrev pub next_macroblock : SeqState → PicCoding → List Macroblock → Grammar (Next Macroblock (Unit {0}))
next_macroblock seq coding [] = one_item_more (macroblock coding true (columns seq))
next_macroblock seq coding (m ∷ ms) = if_next ClosesSlice (done (last tt)) (one_item_more (macroblock coding false (columns_left seq (m ∷ ms))))

-- slice() (6.2.4) of a macroblock row, from behind its start code to the end of its last macroblock
unfoldable pub slice : SeqState → PicCoding → ℕ → Grammar Slice
slice seq coding row = do
  code ← quantiser_scale_code
  info ← slice_info
  macroblocks ← many (next_macroblock seq coding)
  done (record { row = row; code = code; info = info; macroblocks = macroblocks.0 })
