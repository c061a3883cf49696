use Rattle.std.proofs.Common.{◌≡◌, ◌≤◌}
use Rattle.version_table.specs.Choice.{Fits}
use Rattle.branch_plan.proofs.forward.filled_stretch.Given as goal

abbrev pub invariant-loop-sweep : goal.invariant-loop-sweep
invariant-loop-sweep l = record {
  run : l.run.table ≡ l.table;
  fits : Fits l.table l.now;
  used : l.used ≤ l.runs;
}
