-- Slices of a unit, one behind the other.
use Rattle.std.proofs.Common.{ℕ, List, Option, Some, None}
use Rattle.syntax_types.specs.declared.picture.PicCoding.{PicCoding}
use Rattle.syntax_types.specs.declared.picture.SeqState.{SeqState}
use Rattle.syntax_types.specs.declared.slice.Slice.{Slice}
use Rattle.picture_grammar.specs.Picture.{next_slice, whole_slice}
use Rattle.grammar_reading.specs.BitsRead.{PlacedRefusal}
use Rattle.picture_reader.specs.UnitCursor.{SliceComes}
use Rattle.picture_reader.specs.Told.{RefusesTold}

-- a refusal of a slice is one of the list of slices
pub comes-told : (seq : SeqState) (coding : PicCoding) (before : List Slice) (code : ℕ) (bits behind : List ℕ) → SliceComes seq coding before code bits behind → (told : Option PlacedRefusal) (end : ℕ)
    → RefusesTold (whole_slice seq coding code) told end behind → RefusesTold (next_slice seq coding before) told end bits
comes-told seq coding before code bits behind comes None end r = tt
comes-told seq coding before code bits behind comes (Some said) end (left, r, at) = (left, comes.refused said.refusal left r, at)
