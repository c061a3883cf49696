use Rattle.std.proofs.Common.{◌≡◌, ◌+◌, ◌≤◌}
use Rattle.branch_plan.specs.Private.Changes.{FailBetween, changes_before}
use Rattle.branch_plan.proofs.changes.first_help.Given as goal

abbrev pub invariant-loop-place : goal.invariant-loop-place
invariant-loop-place l = record {
  run : l.run.table ≡ l.table;
  same : l.same ≡ l.fn.known;
  rest : l.rest ≤ l.fn.left;
  used : l.fn.left + changes_before l.table l.low ≤ l.rest + changes_before l.table l.place;
  fail : FailBetween l.table l.fn.known.choice l.low l.place;
}
