use Rattle.tstd_model.proofs.WatchLaws.{run_bytes-none}
use Rattle.tstd_model.proofs.leave_queue.KeptRuns.new.Goals as goal

pub returns : goal.returns
returns c = run_bytes-none c.new.result.items c.new.ensures
