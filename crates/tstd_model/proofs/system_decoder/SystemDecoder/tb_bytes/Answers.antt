use Rattle.std.proofs.Common.{◌^◌, sym, ◌∙◌, ap, subst}
use Rattle.tstd_model.specs.Private.Cursors.{instants_of, parts_in}
use Rattle.tstd_model.specs.Private.Server.{EachAtMost}
use Rattle.tstd_model.proofs.CursorLaws.{passed-parts}
use Rattle.tstd_model.proofs.DecoderWalks.{bytes-leave_tb}
use Rattle.tstd_model.proofs.Limits.{tb_in_time}
use Rattle.tstd_model.proofs.system_decoder.SystemDecoder.tb_bytes.Goals as goal

pub new-requires : goal.new-requires
new-requires c =
    let decoder = c.args.self.now in
    subst (EachAtMost (2 ^ 62))
    (sym (bytes-leave_tb decoder.slot c.tb_subticks.result decoder.kind decoder.arrivals.now c.bytes.result c.tb_subticks.ensures.value c.bytes.ensures.instants))
    (tb_in_time decoder.slot decoder.arrivals.now c.requires.slot_fits c.requires.slots_rise c.requires.slots_fit decoder.kind)

pub returns-clause-instants : goal.returns-clause-instants
returns-clause-instants c =
    let decoder = c.args.self.now in
    ap instants_of c.new.ensures
    ∙ bytes-leave_tb decoder.slot c.tb_subticks.result decoder.kind decoder.arrivals.now c.bytes.result c.tb_subticks.ensures.value c.bytes.ensures.instants

pub returns-clause-belong : goal.returns-clause-belong
returns-clause-belong c = ap parts_in c.new.ensures ∙ passed-parts c.tb_subticks.result 0 c.bytes.result ∙ c.bytes.ensures.belong
