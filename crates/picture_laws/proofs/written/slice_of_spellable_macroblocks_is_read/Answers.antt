use Rattle.picture_laws.proofs.WrittenSlice.{slice-written}
use Rattle.picture_laws.proofs.written.slice_of_spellable_macroblocks_is_read.Goals as goal

pub returns : goal.returns
returns c = slice-written
