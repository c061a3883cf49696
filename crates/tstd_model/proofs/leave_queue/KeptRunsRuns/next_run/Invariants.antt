use Rattle.std.proofs.Common.{◌≡◌, ◌++◌, replicate, length}
use Rattle.tstd_model.specs.Private.Runs.{run_bytes}
use Rattle.tstd_model.proofs.leave_queue.KeptRunsRuns.next_run.Given as goal

abbrev pub invariant-runs : goal.invariant-runs
invariant-runs l =
    run_bytes l.self-inside.runs.items ++ replicate l.self-inside.last.count l.self-inside.last.at
    ≡ run_bytes l.initial.self-inside.runs.items ++ replicate l.initial.self-inside.last.count l.initial.self-inside.last.at

abbrev pub decreases-runs : goal.decreases-runs
decreases-runs l = length l.self-inside.runs.items
