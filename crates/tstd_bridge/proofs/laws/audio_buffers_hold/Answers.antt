use Rattle.tstd_bridge.proofs.AudioB.{audio_holds}
use Rattle.tstd_bridge.proofs.laws.audio_buffers_hold.Goals as goal

pub returns : goal.returns
returns c table choice rows stream packets headers removals at valid fits follows there within allowed over =
    audio_holds table choice stream packets headers rows removals at valid fits follows there within allowed over
