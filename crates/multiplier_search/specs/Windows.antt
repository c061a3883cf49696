-- The windows that are tried alone, and what a search gives.
use Rattle.std.specs.Prelude.{◌≡◌, ℕ, ◌+◌, ◌<◌, ◌≤◌, ◌⊎◌, List, [], ◌∷◌, length, All, Option, ◌≤ℤ◌, slice_index_or}
use Rattle.std.specs.List.{Contains}
use Rattle.version_table.specs.declared.table.Table.{Table}
use Rattle.dual_bounds.specs.declared.constants.TheConstants.{LAMBDA_MOST}
use Rattle.dual_bounds.specs.declared.windows.Window.{Window}
use Rattle.dual_bounds.specs.Values.{value_of_windows}
use Rattle.multiplier_search.specs.declared.constants.TheConstants.{LONG_WINDOW_TICKS, SHORT_WINDOW_TICKS}

-- where a window that is tried begins: at the start, at its due time, or half a second or two seconds before it
abbrev pub IsBeginning : (from due : ℕ) → Type 0
IsBeginning from due = ((from ≡ 0) ⊎ (from ≡ due)) ⊎ ((from + SHORT_WINDOW_TICKS ≡ due) ⊎ (from + LONG_WINDOW_TICKS ≡ due))

-- a window that is tried for these due times
pub record IsTried (dues : List ℕ) (window : Window) : Type 0 where
  pub due : Contains dues window.due
  pub beginning : IsBeginning window.from window.due
  pub lambda : window.lambda ≤ LAMBDA_MOST

-- a window does not begin behind its end, and its lambda is within its limit
pub record IsSound (window : Window) : Type 0 where
  pub order : window.from ≤ window.due
  pub lambda : window.lambda ≤ LAMBDA_MOST

-- one window ends before another, or with it and begins before it
abbrev pub Precedes : Window → (other : Window) → Type 0
Precedes window other = (window.due < other.due) ⊎ ((window.due ≡ other.due) × (window.from < other.from))

-- what a search gives: sound windows, in the order of their ends, and of their beginnings where ends are equal
pub record AreSearched (windows : List Window) : Type 0 where
  pub sound : All IsSound windows
  pub rise : (k : ℕ) (d : Window) → k + 1 < length windows → Precedes (slice_index_or windows k d) (slice_index_or windows (k + 1) d)

-- the windows have at least the value of each one that is tried alone for these due times
abbrev pub BeatEachTried : Table → List (Option ℕ) → (dues : List ℕ) → List Window → Type 0
BeatEachTried table fixed dues windows =
    (tried : Window) → IsTried dues tried → value_of_windows table fixed (tried ∷ []) ≤ℤ value_of_windows table fixed windows
