use Rattle.tstd_bridge.proofs.WhenWanted.{allowed_when_wanted}
use Rattle.tstd_bridge.proofs.laws.removals_when_wanted_are_allowed.Goals as goal

pub returns : goal.returns
returns c table choice stream kind packets headers valid fits there = allowed_when_wanted table choice stream kind packets headers valid fits there
