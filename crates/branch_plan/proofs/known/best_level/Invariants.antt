use Rattle.std.proofs.Common.{◌≡◌, ℕ, ◌<◌, ◌≤◌}
use Rattle.branch_plan.specs.Private.Known.{IsKnown, IsNoWorseThanLevel}
use Rattle.branch_plan.proofs.known.best_level.Given as goal

abbrev pub invariant-loop-k : goal.invariant-loop-k
invariant-loop-k l = record {
  run : l.run.table ≡ l.table;
  known : IsKnown l.table l.best;
  start : l.best.distortion ≤ l.fn.known.distortion;
  levels : (level : ℕ) → level < l.k → IsNoWorseThanLevel l.table level l.best.distortion;
}
