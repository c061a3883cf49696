use Rattle.dual_bounds.proofs.ValueLaws.{without_windows}
use Rattle.dual_bounds.proofs.laws.value_without_windows.Goals as goal

pub returns : goal.returns
returns c = without_windows
