use Rattle.dual_bounds.proofs.ValueLaws.{bounds_rise}
use Rattle.dual_bounds.proofs.laws.bounds_rise_with_values.Goals as goal

pub returns : goal.returns
returns c = bounds_rise
