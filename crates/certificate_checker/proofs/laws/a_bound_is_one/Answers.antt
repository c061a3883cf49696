use Rattle.certificate_checker.proofs.Soundness.{faultless_bound}
use Rattle.certificate_checker.proofs.laws.a_bound_is_one.Goals as goal

pub returns : goal.returns
returns c = faultless_bound
