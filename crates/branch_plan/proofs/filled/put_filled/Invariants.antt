use Rattle.version_table.specs.Choice.{Fits}
use Rattle.branch_plan.proofs.filled.put_filled.Given as goal

abbrev pub invariant-loop-unit : goal.invariant-loop-unit
invariant-loop-unit l = Fits l.table l.changed
