use Rattle.picture_laws.proofs.Totality.{one-refusal}
use Rattle.picture_laws.proofs.units.unit_has_one_refusal.Goals as goal

pub returns : goal.returns
returns c = one-refusal
