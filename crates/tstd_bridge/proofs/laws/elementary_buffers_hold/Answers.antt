use Rattle.tstd_model.proofs.FaultLaws.{eb_never_over}
use Rattle.tstd_bridge.proofs.laws.elementary_buffers_hold.Goals as goal

pub returns : goal.returns
returns c slot vbv arrivals removals at over = eb_never_over slot vbv arrivals removals at over
