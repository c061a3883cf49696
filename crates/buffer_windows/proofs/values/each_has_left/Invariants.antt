use Rattle.std.proofs.Common.{◌≡◌, drop}
use Rattle.std.specs.List.{AllZip}
use Rattle.version_table.proofs.Chosen.{units_from}
use Rattle.dual_bounds.specs.Fixed.{NamesVersion}
use Rattle.buffer_windows.specs.Bounds.{each_has_left}
use Rattle.buffer_windows.specs.Charges.{owned_from}
use Rattle.buffer_windows.specs.Private.Prices.{all_have_left}
use Rattle.buffer_windows.proofs.values.each_has_left.Given as goal

-- so far each has, so that it hangs on the programs left
abbrev pub invariant-loop-program : goal.invariant-loop-program
invariant-loop-program l = record {
  names : AllZip NamesVersion (units_from l.program-items l.program-index) l.rest;
  left : all_have_left (owned_from l.program-index (drop l.program-index l.program-items)) l.rest ≡ each_has_left l.table l.fixed;
}
