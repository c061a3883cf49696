use Rattle.std.proofs.Common.{◌≡◌, ◌+◌}
use Rattle.std.specs.List.{AllZip}
use Rattle.version_table.specs.Table.{units_of}
use Rattle.version_table.proofs.Chosen.{units_from}
use Rattle.dual_bounds.specs.Fixed.{NamesVersion}
use Rattle.dual_bounds.specs.Values.{least_costs}
use Rattle.dual_bounds.proofs.costs.least_costs.Given as goal

-- the entries left are for the units of the programs left
abbrev pub invariant-loop-program : goal.invariant-loop-program
invariant-loop-program l = let units = units_from l.program-items l.program-index in record {
  names : AllZip NamesVersion units l.rest;
  total : l.total + least_costs l.windows units l.rest ≡ least_costs l.windows (units_of l.table) l.fixed;
}
