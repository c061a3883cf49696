use Rattle.stream_audit.proofs.Judging.{busy-of}
use Rattle.stream_audit.proofs.judge.first_full_of.Goals as goal

pub returns : goal.returns
returns c =
    busy-of c.args.slot c.args.stream.now.kind c.tb_subticks.result c.args.stream.now.arrivals c.as_slice.result.now c.first_busy.result c.tb_subticks.ensures.value c.as_slice.ensures
    c.first_busy.ensures
