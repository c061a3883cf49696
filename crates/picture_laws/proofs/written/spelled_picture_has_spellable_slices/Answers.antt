use Rattle.std.proofs.Common.{[], arith}
use Rattle.bit_lists.specs.Fields.{bit_list}
use Rattle.bit_lists.proofs.ByteLemmas.{length-bit_list}
use Rattle.picture_laws.proofs.WrittenPicture.{slices-of_picture}
use Rattle.picture_laws.proofs.written.spelled_picture_has_spellable_slices.Goals as goal

pub returns : goal.returns
returns c = λ before picture bytes s. slices-of_picture before picture (bit_list bytes) [] (omega (arith, length-bit_list bytes)) s
