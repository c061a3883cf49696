use Rattle.ts_demux.proofs.DistinctPids.{carried_distinct}
use Rattle.ts_demux.proofs.laws.carried_pids_differ.Goals as goal

pub returns : goal.returns
returns c = carried_distinct
