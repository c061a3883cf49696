use Rattle.bound_certificate.proofs.Whole.{one_cert}
use Rattle.bound_certificate.proofs.laws.one_certificate.Goals as goal

pub returns : goal.returns
returns c = one_cert
