use Rattle.std.proofs.Common.{◌^◌, sym, subst}
use Rattle.tstd_model.specs.Private.Server.{EachAtMost}
use Rattle.tstd_model.proofs.DecoderWalks.{video_excess-is, audio_excess-is, system_leak-is, system_excess-is}
use Rattle.tstd_model.proofs.Limits.{system_in_time}
use Rattle.tstd_model.proofs.system_decoder.SystemDecoder.main_excess.Goals as goal

pub new-leaves-requires-in-System : goal.new-leaves-requires-in-System
new-leaves-requires-in-System c =
    let decoder = c.args.self.now in
    subst (EachAtMost (2 ^ 63)) (sym (system_leak-is decoder.slot decoder.kind decoder.arrivals.now c.passing.result c.in-System.is c.passing.ensures))
    (system_in_time decoder.slot decoder.arrivals.now c.requires.limits.slot_fits c.requires.limits.slots_rise c.requires.limits.slots_fit)

pub returns-in-Video : goal.returns-in-Video
returns-in-Video c =
    let decoder = c.args.self.now in
    video_excess-is decoder.slot c.in-Video.vbv c.eb_bytes.result decoder.kind decoder.arrivals.now decoder.removals.now c.first_over.result
    c.passing-comes.result c.new-leaves.result c.moves.result c.bytes.result
    c.in-Video.is c.eb_bytes.ensures c.passing-comes.ensures c.bytes.ensures.belong c.moves.ensures c.new-leaves.ensures c.first_over.ensures

pub returns-in-Audio : goal.returns-in-Audio
returns-in-Audio c =
    let decoder = c.args.self.now in
    audio_excess-is decoder.slot decoder.kind decoder.arrivals.now decoder.removals.now c.first_over-in-Audio.result c.passing-comes.result c.removed.result
    c.in-Audio.is c.passing-comes.ensures c.removed.ensures c.first_over-in-Audio.ensures

pub returns-in-System : goal.returns-in-System
returns-in-System c =
    let decoder = c.args.self.now in
    system_excess-is decoder.slot decoder.kind decoder.arrivals.now decoder.removals.now c.first_over-in-System.result c.passing-comes.result c.new-leaves-in-System.result c.passing.result
    c.in-System.is c.passing-comes.ensures c.passing.ensures c.new-leaves-in-System.ensures c.first_over-in-System.ensures
