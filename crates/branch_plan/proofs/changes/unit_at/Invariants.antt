use Rattle.std.proofs.Common.{◌≡◌, ◌<◌, get_or, length}
use Rattle.version_table.proofs.Chosen.{units_from}
use Rattle.certificate_checker.proofs.Units.{no_unit}
use Rattle.branch_plan.specs.Private.Changes.{unit_at}
use Rattle.branch_plan.proofs.changes.unit_at.Given as goal

-- the unit is that of the number that is left, of the programs that are left
abbrev pub invariant-loop-program : goal.invariant-loop-program
invariant-loop-program l = record {
  unit : get_or (units_from l.program-items l.program-index) l.rest no_unit ≡ unit_at l.table l.place;
  within : l.rest < length (units_from l.program-items l.program-index);
}
