use Rattle.tstd_bridge.proofs.AudioClean.{audio_clean}
use Rattle.tstd_bridge.proofs.laws.audio_streams_are_clean.Goals as goal

pub returns : goal.returns
returns c table choice rows stream packets headers removals fault valid fits schedule there within allowed is =
    audio_clean table choice rows stream packets headers removals fault valid fits schedule there within allowed is
