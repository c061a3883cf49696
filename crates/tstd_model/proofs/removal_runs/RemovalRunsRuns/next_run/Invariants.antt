use Rattle.std.proofs.Common.{◌≡◌, ◌^◌, ◌≤◌, length, All}
use Rattle.tstd_model.specs.Decoder.{removed}
use Rattle.tstd_model.proofs.removal_runs.RemovalRunsRuns.next_run.Given as goal

abbrev pub invariant-removals : goal.invariant-removals
invariant-removals l = record {
  same : removed l.self-inside.later.now ≡ removed l.initial.self-inside.later.now;
  fit : All (λ removal. removal.due ≤ 2 ^ 53) l.self-inside.later.now;
}

abbrev pub decreases-removals : goal.decreases-removals
decreases-removals l = length l.self-inside.later.now
