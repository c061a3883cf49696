use Rattle.std.proofs.Common.{◌^◌, sym, subst}
use Rattle.tstd_model.specs.Private.Server.{EachAtMost}
use Rattle.tstd_model.proofs.DecoderWalks.{video_old-is, audio_old-is, system_old-is}
use Rattle.tstd_model.proofs.Limits.{arrive_in_time}
use Rattle.tstd_model.proofs.system_decoder.SystemDecoder.old.Goals as goal

pub first_old-requires : goal.first_old-requires
first_old-requires c =
    let decoder = c.args.self.now in
    subst (EachAtMost (2 ^ 62)) (sym c.bytes.ensures.instants)
    (arrive_in_time decoder.slot decoder.arrivals.now c.requires.limits.slot_fits c.requires.limits.slots_rise c.requires.limits.slots_fit)

pub first_old-requires-in-Audio : goal.first_old-requires-in-Audio
first_old-requires-in-Audio c =
    let decoder = c.args.self.now in
    subst (EachAtMost (2 ^ 62)) (sym c.bytes-in-Audio.ensures.instants)
    (arrive_in_time decoder.slot decoder.arrivals.now c.requires.limits.slot_fits c.requires.limits.slots_rise c.requires.limits.slots_fit)

pub returns-in-Video : goal.returns-in-Video
returns-in-Video c =
    let decoder = c.args.self.now in
    video_old-is decoder.slot c.in-Video.vbv decoder.kind decoder.arrivals.now decoder.removals.now c.first_old.result c.bytes.result c.removed.result
    c.in-Video.is c.bytes.ensures.instants c.bytes.ensures.belong c.removed.ensures c.first_old.ensures

pub returns-in-Audio : goal.returns-in-Audio
returns-in-Audio c =
    let decoder = c.args.self.now in
    audio_old-is decoder.slot decoder.kind decoder.arrivals.now decoder.removals.now c.first_old-in-Audio.result c.bytes-in-Audio.result c.removed-in-Audio.result
    c.in-Audio.is c.bytes-in-Audio.ensures.instants c.bytes-in-Audio.ensures.belong c.removed-in-Audio.ensures c.first_old-in-Audio.ensures

pub returns-in-System : goal.returns-in-System
returns-in-System c =
    let decoder = c.args.self.now in
    system_old-is decoder.slot decoder.kind decoder.arrivals.now decoder.removals.now c.in-System.is
