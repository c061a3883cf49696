-- A unit as it is read, where all bytes are told.
use Rattle.std.specs.Prelude.{◌≡◌, ◌≤◌, ℕ, List, length, take, Option}
use Rattle.syntax_types.specs.declared.picture.SeqState.{SeqState}
use Rattle.syntax_types.specs.declared.slice.Slice.{Slice}
use Rattle.picture_reader.specs.declared.keep.Keep.{Keep}
use Rattle.picture_reader.specs.declared.keep.Keep.TheVariants.{Tree}
use Rattle.picture_reader.specs.declared.cursor.UnitCursor.{UnitCursor}
use Rattle.picture_reader.specs.declared.unit.UnitWalked.{UnitWalked}
use Rattle.picture_reader.specs.Picture.{IsPictureOf}
use Rattle.picture_reader.specs.UnitCursor.{StandsBehindSlices, picture_of}

-- the first slices of a unit were read, and kept where they are to be
pub record SlicesKept (before : Option SeqState) (unit : List ℕ) (keep : Keep) (list : List Slice) (cursor : UnitCursor) : Type 0 where
  pub slices : List Slice
  pub stands : StandsBehindSlices before unit slices cursor
  pub kept : keep ≡ Tree → list ≡ slices

-- a picture that the unit spells was read, and its slices kept where they are to be
pub record UnitRead (before : Option SeqState) (unit : List ℕ) (keep : Keep) (walked : UnitWalked) : Type 0 where
  pub slices : List Slice
  pub within : walked.headers.slices_at ≤ length unit
  pub whole : IsPictureOf before unit (picture_of walked.headers (take walked.headers.slices_at unit) slices walked.sequence_end)
  pub kept : keep ≡ Tree → walked.slices ≡ slices
