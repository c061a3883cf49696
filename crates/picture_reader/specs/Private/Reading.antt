-- Parts of a unit as they are read, where all bytes are told.
use Rattle.std.specs.Prelude.{◌≡◌, ◌+◌, ◌≤◌, ℕ, List, [], length, drop}
use Rattle.shelf_io.specs.declared.source.Source.{Ghosts}
use Rattle.bit_cursor.specs.declared.bit_reader.BitReader.{BitReader}
use Rattle.bit_cursor.specs.BitReader.{KeepsSource}
use Rattle.syntax_types.specs.declared.macroblock.Macroblock.{Macroblock}
use Rattle.syntax_types.specs.declared.picture.PicCoding.{PicCoding}
use Rattle.syntax_types.specs.declared.picture.SeqState.{SeqState}
use Rattle.syntax_types.specs.declared.slice.Slice.{Slice}
use Rattle.picture_grammar.specs.Grammar.{many}
use Rattle.picture_grammar.specs.Slice.{columns, next_macroblock, slice}
use Rattle.grammar_reading.specs.Several.{SpellsFront}
use Rattle.video_headers.specs.Private.Reading.{Rests}
use Rattle.macroblock_reader.specs.declared.cursor.SliceCursor.{SliceCursor}
use Rattle.macroblock_reader.specs.SliceCursor.{StandsBehind, columns_behind}
use Rattle.picture_reader.specs.declared.coverage.Span.{Span}
use Rattle.picture_reader.specs.declared.keep.Keep.{Keep}
use Rattle.picture_reader.specs.declared.keep.Keep.TheVariants.{Tree}
use Rattle.picture_reader.specs.declared.slice.MacroblocksWalked.{MacroblocksWalked}
use Rattle.picture_reader.specs.declared.slice.SliceWalked.{SliceWalked}
use Rattle.picture_reader.specs.Coverage.{IsSpan, IsSpanSoFar}

-- the first macroblocks of a slice were read, and kept where they are to be
pub record MacroblocksRead {S : Type 0} {g : Ghosts S} (seq : SeqState) (coding : PicCoding) (keep : Keep) (list : List Macroblock) (span : Span)
    (cursor : SliceCursor) (old now : BitReader S g) : Type 0 where
  pub macroblocks : List Macroblock
  pub stands : StandsBehind seq macroblocks cursor
  pub counted : span.end + columns_behind cursor ≡ columns seq
  pub spans : IsSpanSoFar macroblocks span
  pub kept : keep ≡ Tree → list ≡ macroblocks
  pub read : (end : ℕ) (bits : List ℕ) → Rests old end bits → (middle : List ℕ) × SpellsFront (next_macroblock seq coding) [] macroblocks bits middle × Rests now end middle
  pub keeps : KeepsSource old now

-- all macroblocks of a slice were read, up to its close
pub record AllRead {S : Type 0} {g : Ghosts S} (seq : SeqState) (coding : PicCoding) (keep : Keep) (walked : MacroblocksWalked) (end : ℕ) (bits : List ℕ) (new : BitReader S g) : Type 0 where
  pub macroblocks : List Macroblock
  pub rest : List ℕ
  pub spelled : (many (next_macroblock seq coding)).Spells (macroblocks, tt) bits rest
  pub left : Rests new end rest
  pub spans : IsSpan macroblocks walked.span
  pub kept : keep ≡ Tree → walked.macroblocks ≡ macroblocks

-- a slice stands at the front of the bits, and so many bits spell it
pub record SliceRead (seq : SeqState) (coding : PicCoding) (row : ℕ) (keep : Keep) (walked : SliceWalked) (bits : List ℕ) : Type 0 where
  pub found : Slice
  pub spelled : (slice seq coding row).Spells found bits (drop walked.bits bits)
  pub within : walked.bits ≤ length bits
  pub in_row : found.row ≡ row
  pub spans : IsSpan found.macroblocks walked.span
  pub kept : keep ≡ Tree → walked.slice ≡ found
