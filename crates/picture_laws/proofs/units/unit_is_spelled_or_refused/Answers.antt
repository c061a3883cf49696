use Rattle.picture_laws.proofs.Totality.{spelled-or-refused}
use Rattle.picture_laws.proofs.units.unit_is_spelled_or_refused.Goals as goal

pub returns : goal.returns
returns c = λ before bytes. spelled-or-refused before bytes
