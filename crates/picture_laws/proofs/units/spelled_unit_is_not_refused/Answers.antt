use Rattle.picture_laws.proofs.Totality.{no-refusal}
use Rattle.picture_laws.proofs.units.spelled_unit_is_not_refused.Goals as goal

pub returns : goal.returns
returns c = no-refusal
