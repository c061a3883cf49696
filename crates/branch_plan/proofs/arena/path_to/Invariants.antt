use Rattle.std.proofs.Common.{◌≡◌, ◌<◌, length}
use Rattle.version_table.specs.Table.{units_of}
use Rattle.branch_plan.proofs.Arenas.{ArePassed}
use Rattle.branch_plan.proofs.arena.path_to.Given as goal

abbrev pub invariant-loop-at : goal.invariant-loop-at
invariant-loop-at l = record {
  within : l.at < length l.links;
  size : length l.fixed.items ≡ length (units_of l.table);
  passed : ArePassed l.table l.links l.fixed.items l.at l.number;
}

abbrev pub decreases-loop-at : goal.decreases-loop-at
decreases-loop-at l = l.at
