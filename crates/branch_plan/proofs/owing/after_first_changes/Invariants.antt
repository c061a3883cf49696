use Rattle.std.proofs.Common.{◌≡◌}
use Rattle.branch_plan.specs.Private.Debt.{IsOwing}
use Rattle.branch_plan.proofs.owing.after_first_changes.Given as goal

abbrev pub invariant-loop-change : goal.invariant-loop-change
invariant-loop-change l = record {
  run : l.run.table ≡ l.table;
  owing : IsOwing l.table l.debt l.best;
}
