-- The version of a picture.
use Rattle.std.specs.Prelude.{◌≡◌, ℕ, Option, List}
use Rattle.std.specs.List.{AllZip}
use Rattle.bit_lists.specs.Fields.{AreBytes}
use Rattle.syntax_types.specs.declared.picture.Picture.{Picture}
use Rattle.syntax_types.specs.declared.picture.SeqState.{SeqState}
use Rattle.picture_grammar.specs.Picture.{SpellsPicture, IsCovered}
use Rattle.picture_heads.specs.declared.TheConstants.{NO_DELAY}
use Rattle.picture_heads.specs.Heads.{IsHeadWithoutDelay}
use Rattle.requantiser.specs.Slices.{IsCoarserSlice}

-- A picture, and the same one quantised m sixteenths as coarsely. What is in force and how it is coded is the same but
-- for vbv_delay, and so is its head; the slices are those of the source under coarser codes.
pub record IsVersion (m : ℕ) (from to : Picture) : Type 0 where
  pub seq : to.seq ≡ from.seq
  pub coding : to.coding ≡ record from.coding { vbv_delay = NO_DELAY }
  pub head : IsHeadWithoutDelay from.head to.head
  pub slices : AllZip (IsCoarserSlice from.seq from.coding m) from.slices to.slices
  pub sequence_end : to.sequence_end ≡ from.sequence_end

-- some unit spells the picture behind this state, and its slices hold all its macroblocks (ISO/IEC 13818-2, 6.1.2)
pub record IsLawfulBehind (before : Option SeqState) (picture : Picture) : Type 0 where
  pub bytes : List ℕ
  pub are_bytes : AreBytes bytes
  pub spelled : SpellsPicture before picture bytes
  pub covered : IsCovered picture
