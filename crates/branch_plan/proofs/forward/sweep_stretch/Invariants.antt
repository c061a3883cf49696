use Rattle.std.proofs.Common.{◌≡◌}
use Rattle.version_table.specs.Choice.{Fits}
use Rattle.branch_plan.proofs.forward.sweep_stretch.Given as goal

abbrev pub invariant-loop-used : goal.invariant-loop-used
invariant-loop-used l = record {
  run : l.run.table ≡ l.table;
  fits : Fits l.table l.now;
}
