use Rattle.tstd_bridge.proofs.VideoClean.{video_clean}
use Rattle.tstd_bridge.proofs.laws.video_streams_are_clean.Goals as goal

pub returns : goal.returns
returns c table choice rows stream program vbv packets headers removals fault valid fits schedule there leave allowed is =
    video_clean table choice rows stream program vbv packets headers removals fault valid fits schedule there leave allowed is
