use Rattle.tstd_bridge.proofs.SystemClean.{sections_clean}
use Rattle.tstd_bridge.proofs.laws.sections_are_clean.Goals as goal

pub returns : goal.returns
returns c table choice rows program fault valid follows is = sections_clean table choice rows program fault valid follows is
