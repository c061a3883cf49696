use Rattle.std.proofs.Common.{◌≡◌, ◌*◌, ◌≤◌}
use Rattle.branch_plan.specs.Private.Changes.{changes_before}
use Rattle.branch_plan.proofs.debt.change_count.Given as goal

abbrev pub invariant-loop-place : goal.invariant-loop-place
invariant-loop-place l = record {
  count : l.count ≡ changes_before l.table l.place;
  few : l.count ≤ 8 * l.place;
}
