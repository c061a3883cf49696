use Rattle.std.proofs.Common.{◌≡◌, ◌+◌, ◌*◌, ◌≤◌, length}
use Rattle.version_table.specs.Table.{units_of}
use Rattle.branch_plan.specs.Changes.{change_count}
use Rattle.branch_plan.specs.Private.Changes.{changes_left}
use Rattle.branch_plan.specs.Private.Known.{IsKnown}
use Rattle.branch_plan.proofs.changes.after_changes.Given as goal

-- each round so far has used no more runs than there are changes, and has lowered the distortion and the changes that are left
abbrev pub invariant-loop-left : goal.invariant-loop-left
invariant-loop-left l = record {
  run : l.run.table ≡ l.table;
  known : IsKnown l.table l.best;
  kept : l.best.distortion ≤ l.fn.known.distortion;
  from : l.from ≤ length (units_of l.table);
  gained : l.evaluations + l.best.distortion * change_count l.table ≤ l.left + l.fn.known.distortion * change_count l.table;
  counted : l.evaluations + changes_left l.table l.best.choice * change_count l.table ≤ l.left + change_count l.table * change_count l.table;
}

abbrev pub decreases-loop-left : goal.decreases-loop-left
decreases-loop-left l = l.left
