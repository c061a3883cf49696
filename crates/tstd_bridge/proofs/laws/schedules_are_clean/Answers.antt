use Rattle.tstd_bridge.proofs.SystemClean.{all_clean}
use Rattle.tstd_bridge.proofs.laws.schedules_are_clean.Goals as goal

pub returns : goal.returns
returns c table choice rows valid fits schedule = all_clean table choice rows valid fits schedule
