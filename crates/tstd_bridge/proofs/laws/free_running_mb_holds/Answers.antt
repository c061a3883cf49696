use Rattle.tstd_bridge.proofs.MbHolds.{mb_not_over}
use Rattle.tstd_bridge.proofs.laws.free_running_mb_holds.Goals as goal

pub returns : goal.returns
returns c table choice rows stream program vbv packets headers at valid fits follows there within over =
    mb_not_over table choice stream program vbv packets headers rows at valid fits follows there within over
