-- The slices of a picture.
use Rattle.std.specs.Prelude.{◌+◌, ◌<◌, ◌^◌}
use Rattle.syntax_types.specs.declared.picture.PicCoding.{PicCoding}
use Rattle.syntax_types.specs.declared.picture.SeqState.{SeqState}
use Rattle.syntax_types.specs.declared.slice.Slice.{Slice}
use Rattle.stream_constants.specs.declared.start_codes.TheConstants.{FIRST_SLICE}
use Rattle.picture_grammar.specs.Slice.{slice}
use Rattle.picture_laws.specs.Spellable.{IsSpellable}

-- some bits spell the slice, and its start code has a byte
pub record CanBeWritten (seq : SeqState) (coding : PicCoding) (s : Slice) : Type 0 where
  pub code : s.row + FIRST_SLICE < 2 ^ 8
  pub spelled : IsSpellable (slice seq coding s.row) s
