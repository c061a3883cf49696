-- What turns of the search reach. Multipliers are spoken of as windows from time 0 on.
use Rattle.std.specs.Prelude.{◌≢◌, ℕ, ◌≤◌, List, ◌∷◌, All, Option, Some, ◌≡◌, slice_get, slice_set, ◌≤ℤ◌}
use Rattle.std.specs.List.{Contains}
use Rattle.version_table.specs.declared.table.Table.{Table}
use Rattle.dual_bounds.specs.declared.constants.TheConstants.{LAMBDA_MOST}
use Rattle.dual_bounds.specs.declared.windows.Window.{Window}
use Rattle.dual_bounds.specs.Values.{value_of_windows}

-- a window with another lambda
abbrev pub with_lambda : Window → (lambda : ℕ) → Window
with_lambda window lambda = record { from = window.from; due = window.due; lambda = lambda }

-- some windows have at least the value of those at the start with any one lambda changed, to any within its limit
abbrev pub BeatChanges : Table → List (Option ℕ) → (start found : List Window) → Type 0
BeatChanges table fixed start found =
    (k : ℕ) (window : Window) (lambda : ℕ) → slice_get start k ≡ Some window → lambda ≤ LAMBDA_MOST
    → value_of_windows table fixed (slice_set start k (with_lambda window lambda)) ≤ℤ value_of_windows table fixed found

-- some windows have at least the value of those at the start and one more, from time 0 on up to one of these due times, at which none of
-- them ends, with any lambda within its limit
abbrev pub BeatAdditions : Table → List (Option ℕ) → (dues : List ℕ) → (start found : List Window) → Type 0
BeatAdditions table fixed dues start found =
    (due lambda : ℕ) → Contains dues due → All (λ window. window.due ≢ due) start → lambda ≤ LAMBDA_MOST
    → value_of_windows table fixed (record { from = 0; due = due; lambda = lambda } ∷ start) ≤ℤ value_of_windows table fixed found
