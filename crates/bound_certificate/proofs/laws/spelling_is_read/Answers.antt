use Rattle.std.proofs.Common.{refl}
use Rattle.bound_certificate.proofs.laws.spelling_is_read.Goals as goal

pub returns : goal.returns
returns c = λ cert is few. (few, is, refl)
