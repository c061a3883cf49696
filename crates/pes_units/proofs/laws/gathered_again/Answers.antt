use Rattle.pes_units.proofs.Gathering.{gathered_again}
use Rattle.pes_units.proofs.laws.gathered_again.Goals as goal

pub returns : goal.returns
returns c = gathered_again
