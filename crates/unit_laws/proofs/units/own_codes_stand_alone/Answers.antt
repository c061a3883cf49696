use Rattle.unit_laws.proofs.CodesInOrder.{codes-in-order}
use Rattle.unit_laws.proofs.WholeVersions.{has-parts}
use Rattle.unit_laws.proofs.units.own_codes_stand_alone.Goals as goal

pub returns : goal.returns
returns c = λ before picture unit are spelled. codes-in-order picture unit are (has-parts before picture unit are spelled)
