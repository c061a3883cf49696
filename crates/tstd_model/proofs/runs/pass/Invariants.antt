use Rattle.std.proofs.Common.{◌++◌, ◌≤◌, replicate, length}
use Rattle.tstd_model.specs.Private.Keeps.{HasPassed}
use Rattle.tstd_model.proofs.runs.pass.Given as goal

abbrev pub invariant-runs : goal.invariant-runs
invariant-runs g l = record {
  so_far : HasPassed l.passed (replicate l.initial.run.count l.initial.run.at ++ g.R.Runs.left l.initial.runs) (replicate l.run.count l.run.at ++ g.R.Runs.left l.runs);
  few : l.passed.count ≤ l.count;
}

abbrev pub decreases-runs : goal.decreases-runs
decreases-runs g l = length (g.R.Runs.left l.runs)
