use Rattle.std.proofs.Common.{[]}
use Rattle.bit_lists.specs.Fields.{bit_list}
use Rattle.picture_laws.proofs.Codings.{coding-of_unit}
use Rattle.picture_laws.proofs.pictures.spelled_picture_has_coding.Goals as goal

pub returns : goal.returns
returns c = λ before picture bytes s. coding-of_unit before picture (bit_list bytes) [] s
