use Rattle.std.proofs.Common.{[], arith}
use Rattle.bit_lists.specs.Fields.{bit_list}
use Rattle.bit_lists.proofs.ByteLemmas.{length-bit_list}
use Rattle.picture_laws.proofs.WrittenPicture.{slices-of_picture, picture-read}
use Rattle.picture_laws.proofs.written.written_picture_is_read.Goals as goal

pub returns : goal.returns
returns c = λ before picture bytes written s are.
    picture-read before picture written (slices-of_picture before picture (bit_list bytes) [] (omega (arith, length-bit_list bytes)) s) are
