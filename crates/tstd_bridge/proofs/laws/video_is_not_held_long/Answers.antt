use Rattle.tstd_bridge.proofs.VideoHeld.{video_not_old}
use Rattle.tstd_bridge.proofs.laws.video_is_not_held_long.Goals as goal

pub returns : goal.returns
returns c table choice rows stream program vbv packets headers removals at valid fits schedule there within allowed held =
    video_not_old table choice stream program vbv packets headers rows removals at valid fits schedule there within allowed held
