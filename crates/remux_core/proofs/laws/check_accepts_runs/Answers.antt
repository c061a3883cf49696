use Rattle.remux_core.proofs.AfterRun.{run_is_accepted}
use Rattle.remux_core.proofs.laws.check_accepts_runs.Goals as goal

pub returns : goal.returns
returns c = run_is_accepted
