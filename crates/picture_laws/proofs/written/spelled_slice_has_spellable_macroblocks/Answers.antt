use Rattle.picture_laws.proofs.WrittenSlice.{macroblocks-of_slice}
use Rattle.picture_laws.proofs.written.spelled_slice_has_spellable_macroblocks.Goals as goal

pub returns : goal.returns
returns c = macroblocks-of_slice
