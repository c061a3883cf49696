-- A slice that was read from the front of bits, and counted in some versions.
use Rattle.std.specs.Prelude.{◌≡◌, ◌≢◌, ◌⊎◌, ◌<◌, ◌≤◌, ◌+◌, ◌^◌, ℕ, List, [], length, drop, Some, Bool, true, false, slice_index, slice_index_or}
use Rattle.shelf_io.specs.declared.source.Source.{Ghosts}
use Rattle.bit_cursor.specs.declared.bit_reader.BitReader.{BitReader}
use Rattle.bit_cursor.specs.BitReader.{bits_left, place, KeepsSource}
use Rattle.quant_math.specs.Scales.{IsCode}
use Rattle.syntax_types.specs.declared.macroblock.Macroblock.{Macroblock}
use Rattle.syntax_types.specs.declared.picture.PicCoding.{PicCoding}
use Rattle.syntax_types.specs.declared.picture.SeqState.{SeqState}
use Rattle.syntax_types.specs.declared.slice.Slice.{Slice}
use Rattle.picture_grammar.specs.Grammar.{many}
use Rattle.picture_grammar.specs.Slice.{ClosesSlice, columns, next_macroblock, slice}
use Rattle.picture_grammar.specs.Written.{written_slice_info}
use Rattle.grammar_reading.specs.Several.{SpellsFront}
use Rattle.macroblock_reader.specs.declared.cursor.SliceCursor.{SliceCursor}
use Rattle.macroblock_reader.specs.SliceCursor.{StandsBehind, columns_behind}
use Rattle.picture_reader.specs.declared.coverage.Span.{Span}
use Rattle.picture_reader.specs.Coverage.{IsSpan, IsSpanSoFar}
use Rattle.version_maker.specs.declared.slice_count.VersionCount.{VersionCount}
use Rattle.version_maker.specs.declared.slice_read.SliceRead.{SliceRead}
use Rattle.version_maker.specs.Private.Counts.{AreAllCounted, AreCounted}

-- a slice was counted in the version at each ratio: what its header says behind the code, and its macroblocks
pub record IsSliceCounted (seq : SeqState) (coding : PicCoding) (ratios : List ℕ) (found : Slice) (read : SliceRead) : Type 0 where
  pub info : read.info_bits ≡ length (written_slice_info found.info)
  pub few_info : read.info_bits ≤ 2 ^ 36
  pub spans : IsSpan found.macroblocks read.span
  pub few : read.span.end ≤ 4096
  pub each : (k : ℕ) (d : VersionCount) → k < length ratios → AreAllCounted seq coding (slice_index ratios k) found (slice_index_or read.counts k d)

-- so many of the bits spell a slice of this row, which was counted
pub record IsSliceRead (seq : SeqState) (coding : PicCoding) (ratios : List ℕ) (row : ℕ) (read : SliceRead) (bits : List ℕ) : Type 0 where
  pub found : Slice
  pub spelled : (slice seq coding row).Spells found bits (drop read.bits bits)
  pub within : read.bits ≤ length bits
  pub in_row : found.row ≡ row
  pub counted : IsSliceCounted seq coding ratios found read

-- all macroblocks of a slice were read from these bits, up to its close, and counted in so many versions
pub record AreMacroblocksRead {S : Type 0} {g : Ghosts S} (seq : SeqState) (coding : PicCoding) (versions : ℕ) (starts counts : List VersionCount) (span : Span)
    (bits : List ℕ) (old new : BitReader S g) : Type 0 where
  pub macroblocks : List Macroblock
  pub rest : List ℕ
  pub spelled : (many (next_macroblock seq coding)).Spells (macroblocks, tt) bits rest
  pub left : bits_left new ≡ Some rest
  pub ends : place new + length rest ≡ place old + length bits
  pub spans : IsSpan macroblocks span
  pub few : span.end ≤ 4096
  pub each : (k : ℕ) (d : VersionCount) → k < versions
      → (let start : VersionCount = slice_index_or starts k d in AreCounted seq coding start.state macroblocks true (slice_index_or counts k d))

-- whether a slice is closed behind these macroblocks of it, where these bits follow; before the first one it never is
abbrev pub IsClosed : Bool → List Macroblock → List ℕ → Type 0
IsClosed true macroblocks bits = (macroblocks ≢ []) × ClosesSlice bits
IsClosed false macroblocks bits = (macroblocks ≡ []) ⊎ (ClosesSlice bits → ⊥)

-- the first macroblocks of a slice were read from bits that are told, and counted
pub record MacroblocksRead {S : Type 0} {g : Ghosts S} (seq : SeqState) (coding : PicCoding) (ratios : List ℕ) (starts counts : List VersionCount) (in_force : ℕ)
    (span : Span) (cursor : SliceCursor) (old now : BitReader S g) : Type 0 where
  pub macroblocks : List Macroblock
  pub stands : StandsBehind seq macroblocks cursor
  pub columns_left : span.end + columns_behind cursor ≡ columns seq
  pub spans : IsSpanSoFar macroblocks span
  pub bits : List ℕ
  pub told : bits_left old ≡ Some bits
  pub middle : List ℕ
  pub front : SpellsFront (next_macroblock seq coding) [] macroblocks bits middle
  pub left : bits_left now ≡ Some middle
  pub ends : place now + length middle ≡ place old + length bits
  pub closed : Bool
  pub is_closed : IsClosed closed macroblocks middle
  pub each : (k : ℕ) (d : VersionCount) → k < length ratios
      → (let start : VersionCount = slice_index_or starts k d in AreCounted seq coding start.state macroblocks closed (slice_index_or counts k d))
  pub states : (k : ℕ) (d : VersionCount) → k < length ratios
      → (let count : VersionCount = slice_index_or counts k d in (count.state.m ≡ slice_index ratios k) × (count.state.source_code ≡ in_force))
  pub code : IsCode in_force
  pub keeps : KeepsSource old now
