use Rattle.picture_laws.proofs.WrittenPicture.{picture-read}
use Rattle.picture_laws.proofs.WrittenBits.{written-bytes}
use Rattle.picture_laws.proofs.written.picture_of_spellable_slices_is_lawful.Goals as goal

pub returns : goal.returns
returns c = λ before picture preceded has covered.
    let (written, is) = written-bytes picture in
    record { before = before; preceded = preceded; bytes = written; are_bytes = is.0; spelled = picture-read before picture written has is; covered = covered }
