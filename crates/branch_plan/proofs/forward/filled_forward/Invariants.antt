use Rattle.std.proofs.Common.{◌≡◌, ◌≤◌}
use Rattle.version_table.specs.Choice.{Fits}
use Rattle.branch_plan.proofs.forward.filled_forward.Given as goal

abbrev pub invariant-loop-stretch : goal.invariant-loop-stretch
invariant-loop-stretch l = record {
  run : l.run.table ≡ l.table;
  fits : Fits l.table l.choice;
  used : l.used ≤ l.runs;
}
