use Rattle.std.proofs.Common.{◌≡◌, ◌+◌, ◌-◌, ◌≤◌, min}
use Rattle.branch_plan.specs.Private.Changes.{FailsBelow}
use Rattle.branch_plan.proofs.changes.change_unit.Given as goal

-- the chosen version is none of those that are tried
abbrev pub invariant-loop-k : goal.invariant-loop-k
invariant-loop-k l = record {
  run : l.run.table ≡ l.table;
  same : l.same ≡ l.fn.known;
  rest : l.rest ≤ l.fn.left;
  used : l.fn.left + min 1 (l.k - l.chosen) ≤ l.rest + l.k;
  fails : FailsBelow l.table l.fn.known.choice l.place l.k;
}
