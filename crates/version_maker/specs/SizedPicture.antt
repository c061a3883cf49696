-- The headers of a unit beside the sizes of its versions.
use Rattle.std.specs.Prelude.{ℕ, Option, List}
use Rattle.syntax_types.specs.declared.picture.SeqState.{SeqState}
use Rattle.picture_reader.specs.Picture.{HasHeaders}
use Rattle.version_maker.specs.declared.sizes.SizedPicture.{SizedPicture}
use Rattle.version_maker.specs.Versions.{AreSizes}

-- these are the sizes of all versions of the unit behind the state, and the headers are those of the picture that it spells
pub record IsSizedPicture (before : Option SeqState) (unit coarser : List ℕ) (sized : SizedPicture) : Type 0 where
  pub sizes_are : AreSizes before unit coarser sized.sizes.items
  pub headed : HasHeaders sizes_are.are.picture sized.headers
