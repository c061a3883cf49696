-- What is said of a unit that was read, and of one that wasn't.
use Rattle.std.specs.Prelude.{◌≡◌, ℕ, List, length, Option, IfSome}
use Rattle.syntax_types.specs.declared.picture.Picture.{Picture}
use Rattle.syntax_types.specs.declared.picture.SeqState.{SeqState}
use Rattle.picture_grammar.specs.Picture.{IsCovered, RefusesPicture, SpellsPicture}
use Rattle.video_headers.specs.declared.head.Headers.{Headers}
use Rattle.picture_reader.specs.declared.fault.PictureFault.{PictureFault}
use Rattle.picture_reader.specs.PictureFault.{refusal_told}

-- behind the state the unit spells this picture, whose slices hold all its macroblocks in order, each once
pub record IsPictureOf (before : Option SeqState) (unit : List ℕ) (picture : Picture) : Type 0 where
  pub spelled : SpellsPicture before picture unit
  pub covered : IsCovered picture

-- these are the picture's state and its coding, and its head has so many bytes
pub record HasHeaders (picture : Picture) (headers : Headers) : Type 0 where
  pub seq : picture.seq ≡ headers.seq
  pub coding : picture.coding ≡ headers.coding
  pub size : length picture.head ≡ headers.slices_at

-- behind the state the unit spells such a picture with these headers
pub record SpellsHeaders (before : Option SeqState) (unit : List ℕ) (headers : Headers) : Type 0 where
  pub picture : Picture
  pub whole : IsPictureOf before unit picture
  pub headed : HasHeaders picture headers

-- behind the state the unit is refused as the fault says, by its kind and its place, unless memory was wanted
abbrev pub IsRefusedAs : Option SeqState → List ℕ → PictureFault → Type 0
IsRefusedAs before unit fault = IfSome (refusal_told fault) (λ said. RefusesPicture before unit said.refusal said.at)
