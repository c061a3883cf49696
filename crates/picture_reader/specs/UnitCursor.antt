-- Where a reader stands in the slices of a unit (ISO/IEC 13818-2, 6.2.2).
use Rattle.std.specs.Prelude.{◌≡◌, ◌≢◌, ◌-◌, ◌≤◌, ◌<◌, ℕ, List, [], length, take, drop, Option, Bool, true, false}
use Rattle.bit_lists.specs.Fields.{bit_list}
use Rattle.stream_constants.specs.declared.start_codes.TheConstants.{FIRST_SLICE}
use Rattle.syntax_types.specs.declared.picture.PicCoding.{PicCoding}
use Rattle.syntax_types.specs.declared.picture.Picture.{Picture}
use Rattle.syntax_types.specs.declared.picture.SeqState.{SeqState}
use Rattle.syntax_types.specs.declared.slice.Slice.{Slice}
use Rattle.picture_grammar.specs.Refusal.{Refusal}
use Rattle.picture_grammar.specs.Grammar.Next.{more}
use Rattle.picture_grammar.specs.Head.{head}
use Rattle.picture_grammar.specs.Picture.{next_slice, whole_slice}
use Rattle.picture_grammar.specs.Slice.{slice}
use Rattle.stream_constants.specs.SliceCodes.{is_slice}
use Rattle.grammar_reading.specs.Several.{SpellsFront}
use Rattle.video_headers.specs.declared.head.Headers.{Headers}
use Rattle.picture_reader.specs.declared.coverage.Span.{Span}
use Rattle.picture_reader.specs.declared.cursor.UnitCursor.{UnitCursor}
use Rattle.picture_reader.specs.declared.cursor.UnitPart.{UnitPart}
use Rattle.picture_reader.specs.declared.cursor.UnitPart.TheVariants as part
use Rattle.picture_reader.specs.Coverage.{Covers, IsSpan}
use Rattle.picture_reader.specs.Picture.{IsPictureOf}

-- the bits of a unit from a byte on
abbrev pub bits_from : List ℕ → ℕ → List ℕ
bits_from unit at = bit_list (drop at unit)

-- the unit begins with a head that says this, and its slices begin where it says
pub record HeadStands (before : Option SeqState) (unit : List ℕ) (headers : Headers) : Type 0 where
  pub spelled : (head before).Spells (headers.seq, headers.coding) (bit_list unit) (bits_from unit headers.slices_at)
  pub within : headers.slices_at ≤ length unit

-- the picture of these parts
abbrev pub picture_of : Headers → List ℕ → List Slice → Bool → Picture
picture_of headers head slices sequence_end = record { seq = headers.seq; coding = headers.coding; head = head; slices = slices; sequence_end = sequence_end }

-- no slice was read before, or some
abbrev pub IsBehind : Bool → List Slice → Type 0
IsBehind true before = before ≡ []
IsBehind false before = before ≢ []

-- a cursor stands behind these slices of a unit, which are all that were read of it
pub record StandsBehindSlices (before : Option SeqState) (unit : List ℕ) (slices : List Slice) (cursor : UnitCursor) : Type 0 where
  pub headed : HeadStands before unit cursor.headers
  pub front : SpellsFront (next_slice cursor.headers.seq cursor.headers.coding) [] slices (bits_from unit cursor.headers.slices_at) (bits_from unit cursor.at)
  pub within : cursor.at ≤ length unit
  pub first : IsBehind cursor.is_first slices
  pub covers : Covers cursor.headers.seq slices cursor.coverage

-- one more slice comes with this start code: what it spells and refuses behind it, the list of slices does from the place before
pub record SliceComes (seq : SeqState) (coding : PicCoding) (before : List Slice) (code : ℕ) (bits behind : List ℕ) : Type 0 where
  pub is_one : is_slice code ≡ true
  pub spelled : (s : Slice) (rest : List ℕ) → (whole_slice seq coding code).Spells s behind rest → (next_slice seq coding before).Spells (more s) bits rest
  pub refused : (refusal : Refusal) (left : List ℕ) → (whole_slice seq coding code).Refuses behind refusal left → (next_slice seq coding before).Refuses bits refusal left

-- a slice of this row comes next, and begins at this byte, behind its start code
pub record SliceBegins (slices : List Slice) (unit : List ℕ) (cursor : UnitCursor) (row at : ℕ) : Type 0 where
  pub code : ℕ
  pub in_row : row ≡ code - FIRST_SLICE
  pub comes : SliceComes cursor.headers.seq cursor.headers.coding slices code (bits_from unit cursor.at) (bits_from unit at)
  pub onward : cursor.at < at
  pub within : at ≤ length unit

-- one more slice comes, or the unit ends: then its picture is the one of these slices
abbrev pub IsNextPart : Option SeqState → List ℕ → List Slice → UnitCursor → UnitPart → Type 0
IsNextPart before unit slices cursor (part.Slice row at) = SliceBegins slices unit cursor row at
IsNextPart before unit slices cursor (part.End sequence_end) =
    IsPictureOf before unit (picture_of cursor.headers (take cursor.headers.slices_at unit) slices sequence_end)

-- a slice of this row and with this span is spelled by so many bits from this byte on
pub record SliceStands (cursor : UnitCursor) (unit : List ℕ) (row at bits : ℕ) (span : Span) (found : Slice) : Type 0 where
  pub spelled : (slice cursor.headers.seq cursor.headers.coding row).Spells found (bits_from unit at) (drop bits (bits_from unit at))
  pub within : bits ≤ length (bits_from unit at)
  pub in_row : found.row ≡ row
  pub spans : IsSpan found.macroblocks span
