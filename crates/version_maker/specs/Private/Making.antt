-- A version that is written while its source is read: macroblock by macroblock, slice by slice, and the whole unit.
use Rattle.std.specs.Prelude.{◌≡◌, ◌≤◌, ◌<◌, ◌+◌, ◌==◌, ◌++◌, ℕ, Bool, Option, List, [], length, take, drop}
use Rattle.std.specs.Option.{option_to_list}
use Rattle.std.specs.List.{AllZip, flat_map}
use Rattle.shelf_io.specs.declared.source.Source.{Ghosts}
use Rattle.shelf_io.specs.Sink.{Told}
use Rattle.bit_lists.specs.Fields.{bit_list}
use Rattle.bit_cursor.specs.declared.bit_reader.BitReader.{BitReader}
use Rattle.bit_cursor.specs.declared.bit_writer.BitWriter.{BitWriter}
use Rattle.bit_cursor.specs.BitReader.{KeepsSource}
use Rattle.bit_cursor.specs.BitWriter.{AddsBits}
use Rattle.syntax_types.specs.declared.macroblock.Macroblock.{Macroblock}
use Rattle.syntax_types.specs.declared.picture.PicCoding.{PicCoding}
use Rattle.syntax_types.specs.declared.picture.Picture.{Picture}
use Rattle.syntax_types.specs.declared.picture.SeqState.{SeqState}
use Rattle.syntax_types.specs.declared.slice.Slice.{Slice}
use Rattle.picture_grammar.specs.Grammar.{many}
use Rattle.picture_grammar.specs.Slice.{ClosesSlice, columns, next_macroblock, slice}
use Rattle.picture_grammar.specs.Written.{written_macroblock, written_picture}
use Rattle.picture_heads.specs.Heads.{IsHeadWithoutDelay}
use Rattle.grammar_reading.specs.Several.{SpellsFront}
use Rattle.video_headers.specs.Private.Reading.{Rests}
use Rattle.macroblock_reader.specs.declared.cursor.SliceCursor.{SliceCursor}
use Rattle.macroblock_reader.specs.declared.head.SliceHead.{SliceHead}
use Rattle.macroblock_reader.specs.SliceCursor.{StandsBehind, columns_behind}
use Rattle.macroblock_writer.specs.Private.Going.{GoesOn}
use Rattle.macroblock_writer.specs.Private.WholeSlices.{written_whole_slice}
use Rattle.picture_reader.specs.declared.coverage.Span.{Span}
use Rattle.picture_reader.specs.declared.cursor.UnitCursor.{UnitCursor}
use Rattle.picture_reader.specs.Coverage.{IsSpan, IsSpanSoFar}
use Rattle.picture_reader.specs.Picture.{IsPictureOf}
use Rattle.picture_reader.specs.UnitCursor.{StandsBehindSlices}
use Rattle.requantiser.specs.declared.version_state.VersionState.{VersionState}
use Rattle.requantiser.specs.Slices.{IsCoarserSlice}
use Rattle.requantiser.specs.Steps.{AreSteps, IsStep, Step, made_by, state_behind, taken_by}
use Rattle.requantiser.specs.Version.{IsVersion}
use Rattle.version_maker.specs.declared.slice_version.SliceMade.{SliceMade}

-- ---- macroblocks

-- what a macroblock became was written, where it is coded
pub record IsWrittenStep {K : Type 0} (written : K → Told) (seq : SeqState) (coding : PicCoding) (inner : Bool) (from : Macroblock) (before behind : VersionState)
    (old new : BitWriter K) : Type 0 where
  pub step : Step
  pub same : step.from ≡ from
  pub is : IsStep seq coding inner before step
  pub state : behind ≡ step.behind
  pub put : GoesOn written old new (flat_map (written_macroblock coding) (option_to_list step.made))

-- Steps over the first macroblocks of a slice are in order, before these bits: where they close the slice (6.2.4) there
-- are no others, and else some more.
abbrev pub AreInOrder : SeqState → PicCoding → VersionState → List Step → List ℕ → Type 0
AreInOrder seq coding start steps bits =
    (ClosesSlice bits → AreSteps seq coding (length steps) 0 start steps)
    × ((ClosesSlice bits → ⊥) → (count : ℕ) → length steps < count → AreSteps seq coding count 0 start steps)

-- the first macroblocks of a slice were read, and what they became was written
pub record AreMadeSoFar {K S : Type 0} {g : Ghosts S} (written : K → Told) (seq : SeqState) (coding : PicCoding) (start state : VersionState) (is_first : Bool) (span : Span)
    (cursor : SliceCursor) (old now : BitReader S g) (put put_now : BitWriter K) : Type 0 where
  pub steps : List Step
  pub behind : state_behind start steps ≡ state
  pub first : is_first ≡ (length steps == 0)
  pub stands : StandsBehind seq (taken_by steps) cursor
  pub counted : span.end + columns_behind cursor ≡ columns seq
  pub spans : IsSpanSoFar (taken_by steps) span
  pub room : state.skipped + columns_behind cursor ≤ columns seq
  pub read : (end : ℕ) (bits : List ℕ) → Rests old end bits
      → (middle : List ℕ) × SpellsFront (next_macroblock seq coding) [] (taken_by steps) bits middle × Rests now end middle × AreInOrder seq coding start steps middle
  pub keeps : KeepsSource old now
  pub goes : GoesOn written put put_now (flat_map (written_macroblock coding) (made_by steps))

-- all macroblocks of a slice were read, up to its close, and what they became was written
pub record AreMade {K S : Type 0} {g : Ghosts S} (written : K → Told) (seq : SeqState) (coding : PicCoding) (start : VersionState) (span : Span) (end : ℕ) (bits : List ℕ)
    (new : BitReader S g) (put put_now : BitWriter K) : Type 0 where
  pub steps : List Step
  pub rest : List ℕ
  pub spelled : (many (next_macroblock seq coding)).Spells (taken_by steps, tt) bits rest
  pub left : Rests new end rest
  pub spans : IsSpan (taken_by steps) span
  pub in_order : AreSteps seq coding (length (taken_by steps)) 0 start steps
  pub goes : GoesOn written put put_now (flat_map (written_macroblock coding) (made_by steps))

-- ---- slices

-- the slice of these parts
abbrev pub slice_of : ℕ → SliceHead → List Macroblock → Slice
slice_of row head macroblocks = record { row = row; code = head.code; info = head.info; macroblocks = macroblocks }

-- all macroblocks behind the head of a slice were read, and the slice of the version was written
pub record IsMadeBehind {S : Type 0} {g : Ghosts S} (seq : SeqState) (coding : PicCoding) (m row : ℕ) (head : SliceHead) (span : Span) (end : ℕ) (bits : List ℕ)
    (new : BitReader S g) (told told_after : Told) : Type 0 where
  pub macroblocks : List Macroblock
  pub rest : List ℕ
  pub spelled : (many (next_macroblock seq coding)).Spells (macroblocks, tt) bits rest
  pub left : Rests new end rest
  pub spans : IsSpan macroblocks span
  pub to : Slice
  pub coarser : IsCoarserSlice seq coding m (slice_of row head macroblocks) to
  pub adds : AddsBits told told_after (written_whole_slice coding to)

-- so many of the bits spell a slice of this row, and the slice of the version was written
pub record IsMadeSlice (seq : SeqState) (coding : PicCoding) (m row : ℕ) (made : SliceMade) (bits : List ℕ) (told told_after : Told) : Type 0 where
  pub found : Slice
  pub spelled : (slice seq coding row).Spells found bits (drop made.bits bits)
  pub within : made.bits ≤ length bits
  pub in_row : found.row ≡ row
  pub spans : IsSpan found.macroblocks made.span
  pub few : made.span.end ≤ 4096
  pub to : Slice
  pub coarser : IsCoarserSlice seq coding m found to
  pub adds : AddsBits told told_after (written_whole_slice coding to)

-- ---- the unit

-- a cursor stands behind the first slices of a unit, and the head and these slices of the version were written
pub record IsMadeSoFar (before : Option SeqState) (unit : List ℕ) (m : ℕ) (cursor : UnitCursor) (told now : Told) : Type 0 where
  pub slices : List Slice
  pub tos : List Slice
  pub stands : StandsBehindSlices before unit slices cursor
  pub coarser : AllZip (IsCoarserSlice cursor.headers.seq cursor.headers.coding m) slices tos
  pub head : List ℕ
  pub without : IsHeadWithoutDelay (take cursor.headers.slices_at unit) head
  pub adds : AddsBits told now (bit_list head ++ flat_map (written_whole_slice cursor.headers.coding) tos)

-- the unit spells a picture, whose version was written
pub record IsMadeVersion (before : Option SeqState) (unit : List ℕ) (m : ℕ) (told told_after : Told) : Type 0 where
  pub picture : Picture
  pub whole : IsPictureOf before unit picture
  pub made : Picture
  pub coarser : IsVersion m picture made
  pub adds : AddsBits told told_after (written_picture made)
