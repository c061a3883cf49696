use Rattle.picture_laws.proofs.WrittenPicture.{picture-read}
use Rattle.picture_laws.proofs.written.picture_of_spellable_slices_is_read.Goals as goal

pub returns : goal.returns
returns c = picture-read
