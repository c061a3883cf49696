use Rattle.tstd_model.proofs.FaultLaws.{first_fault-is}
use Rattle.tstd_model.proofs.DecoderWalks.{earliest-of}
use Rattle.tstd_model.proofs.system_decoder.first_fault.Goals as goal

pub returns : goal.returns
returns c =
    first_fault-is c.args.slot c.args.kind c.args.arrivals.now c.args.removals.now c.earliest.result c.requires.slots_rise c.requires.dues_rise
    (earliest-of c.args.slot c.args.kind c.args.arrivals.now c.args.removals.now c.earliest.result c.late.result c.tb_excess.result c.main_excess.result c.earlier-over.result c.old.result
    c.late.ensures c.tb_excess.ensures c.main_excess.ensures c.earlier-over.ensures c.old.ensures c.earliest.ensures)
