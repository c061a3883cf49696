-- Weak duality: no scheduled choice has less distortion than the bound of some windows' value.
use Rattle.std.proofs.Common.{ℕ, ◌+◌, ◌*◌, ◌≤◌, List, sum, sum_by, Option, pos, ◌≤ℤ◌, arith}
use Rattle.std.specs.List.{zip}
use Rattle.std.proofs.lemmas.Int.{ints}
use Rattle.version_table.specs.declared.table.Table.{Table}
use Rattle.version_table.specs.Choice.{Fits, chosen_distortions, distortion_of_choice}
use Rattle.version_table.specs.Table.{IsValidTable, units_of}
use Rattle.slot_rule.specs.Schedule.{IsScheduled}
use Rattle.dual_bounds.specs.declared.constants.TheConstants.{DISTORTION_PARTS}
use Rattle.dual_bounds.specs.declared.windows.Window.{Window}
use Rattle.dual_bounds.specs.Bounds.{IsBound, bound_of_value}
use Rattle.dual_bounds.specs.Fixed.{TakesFixed}
use Rattle.dual_bounds.specs.Values.{least_costs, value_of_windows, worth}
use Rattle.dual_bounds.proofs.Carried.{due_fit}
use Rattle.dual_bounds.proofs.Charges.{bound-le, charged, charged-le-worth, least_costs-le}
use Rattle.dual_bounds.proofs.UnitPackets.{units_due}

pub value-le : (table : Table) (fixed : List (Option ℕ)) (windows : List Window) (choice : List ℕ) → IsValidTable table → Fits table choice → TakesFixed fixed choice
    → IsScheduled table choice → value_of_windows table fixed windows ≤ℤ pos (DISTORTION_PARTS * distortion_of_choice table choice)
unfolding value_of_windows
value-le table fixed windows choice valid fits takes (rows, schedule) =
    let units = units_of table in
    let chosen = zip units choice in
    let paid : pos (sum_by (charged windows) chosen) ≤ℤ worth table windows =
    charged-le-worth table chosen (λ from due. omega (arith, units_due table choice from due, due_fit table choice rows valid fits schedule from due)) windows in
    let least : least_costs windows units fixed ≤ DISTORTION_PARTS * sum (chosen_distortions units choice) + sum_by (charged windows) chosen = least_costs-le windows units fixed choice fits takes in
    omega (arith, ints)

pub windows_bound : (table : Table) (fixed : List (Option ℕ)) (windows : List Window) → IsValidTable table → IsBound table fixed (bound_of_value (value_of_windows table fixed windows))
windows_bound table fixed windows valid choice fits takes scheduled =
    bound-le (value_of_windows table fixed windows) (distortion_of_choice table choice) (value-le table fixed windows choice valid fits takes scheduled)
