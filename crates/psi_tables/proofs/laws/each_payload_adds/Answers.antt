use Rattle.psi_tables.proofs.FrontLaw.{added-is}
use Rattle.psi_tables.proofs.laws.each_payload_adds.Goals as goal

pub returns : goal.returns
returns c = added-is
