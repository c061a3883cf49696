-- The bound that a value gives, and what it bounds.
use Rattle.std.specs.Prelude.{ℕ, ◌≤◌, List, Option, ℤ, pos, negsuc}
use Rattle.std.specs.Int.{div_ceil}
use Rattle.version_table.specs.declared.table.Table.{Table}
use Rattle.version_table.specs.Choice.{Fits, distortion_of_choice}
use Rattle.slot_rule.specs.Schedule.{IsScheduled}
use Rattle.dual_bounds.specs.declared.constants.TheConstants.{DISTORTION_PARTS}
use Rattle.dual_bounds.specs.Fixed.{TakesFixed}

-- the value as a distortion: over its parts, rounded up, and at least 0
abbrev pub bound_of_value : ℤ → ℕ
bound_of_value (pos value) = div_ceil value DISTORTION_PARTS
bound_of_value (negsuc n) = 0

-- no scheduled choice that takes the versions that are fixed has less distortion
abbrev pub IsBound : Table → List (Option ℕ) → (bound : ℕ) → Type 0
IsBound table fixed bound =
    (choice : List ℕ) → Fits table choice → TakesFixed fixed choice → IsScheduled table choice → bound ≤ distortion_of_choice table choice
