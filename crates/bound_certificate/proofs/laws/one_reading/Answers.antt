use Rattle.bound_certificate.proofs.Readings.{reading_is_one}
use Rattle.bound_certificate.proofs.laws.one_reading.Goals as goal

pub returns : goal.returns
returns c = reading_is_one
