use Rattle.dual_bounds.proofs.Duality.{windows_bound}
use Rattle.dual_bounds.proofs.laws.weak_duality.Goals as goal

pub returns : goal.returns
returns c = windows_bound
