use Rattle.std.proofs.Common.{[]}
use Rattle.bit_lists.specs.Fields.{bit_list}
use Rattle.picture_laws.proofs.SpelledStates.{state-of_unit}
use Rattle.picture_laws.proofs.pictures.spelled_picture_has_state.Goals as goal

pub returns : goal.returns
returns c = λ before picture bytes may s. state-of_unit before picture (bit_list bytes) [] may s
