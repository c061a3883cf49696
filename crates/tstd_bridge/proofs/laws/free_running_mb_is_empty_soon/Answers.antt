use Rattle.tstd_bridge.proofs.MbFree.{mb_empty}
use Rattle.tstd_bridge.proofs.laws.free_running_mb_is_empty_soon.Goals as goal

pub returns : goal.returns
returns c table choice rows stream program vbv packets headers at valid fits follows there within late =
    mb_empty table choice stream program vbv packets headers rows at valid fits follows there within late
