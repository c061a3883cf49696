use Rattle.std.proofs.Common.{◌≡◌, ◌+◌, ◌*◌, ◌≤◌, ◌^◌, drop}
use Rattle.std.specs.List.{AllZip}
use Rattle.version_table.proofs.Chosen.{units_from}
use Rattle.dual_bounds.specs.Fixed.{NamesVersion}
use Rattle.buffer_windows.specs.Charges.{owned_from, owned_units}
use Rattle.buffer_windows.specs.Values.{least_owned_costs as least_costs}
use Rattle.buffer_windows.proofs.values.least_costs.Given as goal

-- the entries left are for the units of the programs left
abbrev pub invariant-loop-number : goal.invariant-loop-number
invariant-loop-number l = record {
  names : AllZip NamesVersion (units_from l.program-items l.number) l.rest;
  total : l.total + least_costs l.table.slot l.windows (owned_from l.number (drop l.number l.program-items)) l.rest
      ≡ least_costs l.table.slot l.windows (owned_units l.table) l.fixed;
  small : l.total ≤ l.number * 2 ^ 102;
}
