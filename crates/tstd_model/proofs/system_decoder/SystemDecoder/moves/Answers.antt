use Rattle.std.proofs.Common.{◌^◌, sym, ◌∙◌, subst}
use Rattle.tstd_model.specs.Private.Server.{EachAtMost}
use Rattle.tstd_model.proofs.DecoderWalks.{moves-are}
use Rattle.tstd_model.proofs.Limits.{moves_in_time}
use Rattle.tstd_model.proofs.system_decoder.SystemDecoder.moves.Goals as goal

pub new-requires-2 : goal.new-requires-2
new-requires-2 c =
    let decoder = c.args.self.now in
    let limits = c.requires.limits in
    subst (EachAtMost (2 ^ 63))
    (sym
    (moves-are decoder.slot c.args.vbv c.eb_bytes.result decoder.kind decoder.arrivals.now decoder.removals.now c.new.result c.passing.result c.removed.result
    c.requires.video c.eb_bytes.ensures c.removed.ensures c.new.ensures c.passing.ensures))
    (moves_in_time decoder.slot decoder.arrivals.now limits.slot_fits limits.slots_rise limits.slots_fit c.args.vbv decoder.removals.now limits.dues_fit)

pub returns : goal.returns
returns c =
    let decoder = c.args.self.now in
    c.new-2.ensures
    ∙ moves-are decoder.slot c.args.vbv c.eb_bytes.result decoder.kind decoder.arrivals.now decoder.removals.now c.new.result c.passing.result c.removed.result
    c.requires.video c.eb_bytes.ensures c.removed.ensures c.new.ensures c.passing.ensures
