use Rattle.tstd_model.proofs.DecoderWalks.{audio_late-is, system_late-is}
use Rattle.tstd_model.proofs.system_decoder.SystemDecoder.late.Goals as goal

pub returns-in-Audio : goal.returns-in-Audio
returns-in-Audio c =
    let decoder = c.args.self.now in
    audio_late-is decoder.slot decoder.kind decoder.arrivals.now decoder.removals.now c.first_late-in-Audio.result c.passing.result c.removed-in-Audio.result
    c.in-Audio.is c.passing.ensures c.removed-in-Audio.ensures c.first_late-in-Audio.ensures

pub returns-in-System : goal.returns-in-System
returns-in-System c =
    let decoder = c.args.self.now in
    system_late-is decoder.slot decoder.kind decoder.arrivals.now decoder.removals.now c.next_byte.result c.removed-in-System.result c.next_byte.new.self
    c.in-System.is c.removed-in-System.ensures c.next_byte.ensures
