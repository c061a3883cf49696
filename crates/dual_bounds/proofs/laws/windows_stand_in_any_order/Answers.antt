use Rattle.dual_bounds.proofs.ValueLaws.{any_order}
use Rattle.dual_bounds.proofs.laws.windows_stand_in_any_order.Goals as goal

pub returns : goal.returns
returns c = any_order
