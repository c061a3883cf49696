use Rattle.std.proofs.Common.{◌≡◌, ◌<◌, drop, get_or, length}
use Rattle.buffer_windows.specs.Charges.{owned_from}
use Rattle.branch_plan.specs.Bound.{owned_at}
use Rattle.branch_plan.proofs.Owned.{no_owned}
use Rattle.branch_plan.proofs.fitting.owner_of.Given as goal

-- the unit is that of the number that is left, of the programs that are left
abbrev pub invariant-loop-number : goal.invariant-loop-number
invariant-loop-number l = record {
  unit : get_or (owned_from l.number (drop l.number l.program-items)) l.rest no_owned ≡ owned_at l.table l.unit;
  within : l.rest < length (owned_from l.number (drop l.number l.program-items));
}
