use Rattle.std.proofs.Common.{◌≡◌}
use Rattle.table_cases.proofs.runs.runs_of.Given as goal

abbrev pub invariant-loop-k : goal.invariant-loop-k
invariant-loop-k l = l.run.table ≡ l.fn.table
