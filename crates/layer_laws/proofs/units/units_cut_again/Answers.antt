use Rattle.layer_laws.proofs.UnitCuts.{cut_again, bytes_again}
use Rattle.layer_laws.proofs.units.units_cut_again.Goals as goal

pub returns-clause-cut : goal.returns-clause-cut
returns-clause-cut c = cut_again

pub returns-clause-bytes : goal.returns-clause-bytes
returns-clause-bytes c = bytes_again
