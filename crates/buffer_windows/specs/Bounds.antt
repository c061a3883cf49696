-- The bound that the value of some windows gives, and what it says.
use Rattle.std.specs.Prelude.{ℕ, Bool, List, length, nat_lt, if◌then◌else◌, Option, Some, None, ℤ, pos, negsuc}
use Rattle.std.specs.List.{list_all, zip}
use Rattle.std.specs.Int.{div_ceil}
use Rattle.version_table.specs.declared.table.Table.{Table}
use Rattle.version_table.specs.Choice.{Fits}
use Rattle.slot_rule.specs.Schedule.{IsScheduled}
use Rattle.dual_bounds.specs.Bounds.{IsBound}
use Rattle.dual_bounds.specs.Fixed.{TakesFixed}
use Rattle.buffer_windows.specs.declared.windows.BufferWindow.{BufferWindow}
use Rattle.buffer_windows.specs.Charges.{owned_units}
use Rattle.buffer_windows.specs.Values.{byte_parts, value_of_buffer_windows, versions_left}

-- the value as a distortion: over its parts, rounded up, and at least 0
abbrev pub bound_of_byte_value : ℤ → ℕ
bound_of_byte_value (pos value) = div_ceil value byte_parts
bound_of_byte_value (negsuc n) = 0

-- each unit has a version that may be chosen
abbrev pub each_has_left : Table → List (Option ℕ) → Bool
each_has_left table fixed = list_all (λ (owned, entry). nat_lt 0 (length (versions_left owned entry))) (zip (owned_units table) fixed)

-- the bound of some windows, where these versions are fixed; none where a unit has no version left
unfoldable pub bound_of_buffer_windows : Table → List (Option ℕ) → List BufferWindow → Option ℕ
bound_of_buffer_windows table fixed windows =
    if each_has_left table fixed
    then Some (bound_of_byte_value (value_of_buffer_windows table fixed windows))
    else None

-- no scheduled choice that takes the versions that are fixed has less distortion than the bound; where there is none, no such choice is scheduled
abbrev pub IsBoundOrNone : Table → List (Option ℕ) → Option ℕ → Type 0
IsBoundOrNone table fixed (Some bound) = IsBound table fixed bound
IsBoundOrNone table fixed None = (choice : List ℕ) → Fits table choice → TakesFixed fixed choice → IsScheduled table choice → ⊥
