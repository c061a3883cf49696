-- What the windows of the root reach.
use Rattle.std.specs.Prelude.{◌≢◌, ℕ, List, [], ◌∷◌, Option, ◌≤ℤ◌}
use Rattle.version_table.specs.declared.table.Table.{Table}
use Rattle.dual_bounds.specs.declared.windows.Multiplier.{Multiplier}
use Rattle.dual_bounds.specs.declared.windows.Window.{Window}
use Rattle.dual_bounds.specs.Values.{value_of_multipliers, value_of_windows}
use Rattle.multiplier_search.specs.Single.{IsCandidate, IsFirstBest}
use Rattle.branch_plan.specs.Bound.{unit_dues}

-- windows have at least the value of the first best multiplier with any other one beside it, at another unit's due time
abbrev pub BeatEachPair : Table → List (Option ℕ) → List Window → Type 0
BeatEachPair table fixed windows =
    (first other : Multiplier) → IsFirstBest table fixed (unit_dues table) first → IsCandidate (unit_dues table) other → other.due ≢ first.due
    → value_of_multipliers table fixed (other ∷ first ∷ []) ≤ℤ value_of_windows table fixed windows
