-- One turn: windows that follow others by a change or an addition.
use Rattle.std.specs.Prelude.{◌≡◌, ℕ, ◌+◌, ◌<◌, ◌≤◌, ◌⊎◌, List, length, All, Option, Some, ◌≤ℤ◌, slice_get, slice_set, slice_index_or}
use Rattle.version_table.specs.declared.table.Table.{Table}
use Rattle.dual_bounds.specs.declared.constants.TheConstants.{LAMBDA_MOST}
use Rattle.dual_bounds.specs.declared.windows.Window.{Window}
use Rattle.dual_bounds.specs.Values.{value_of_windows}
use Rattle.multiplier_search.specs.Turns.{with_lambda}
use Rattle.multiplier_search.specs.Windows.{AreSearched, Precedes}

-- windows from time 0 on, as multipliers are
abbrev pub AreFromStart : List Window → Type 0
AreFromStart windows = All (λ window. window.from ≡ 0) windows

-- windows as a search gives them, at most so many more than at the start, and all from time 0 on where those are
pub record AreNext (start : List Window) (more : ℕ) (found : List Window) : Type 0 where
  pub few : length found ≤ length start + more
  pub searched : AreSearched found
  pub starts : AreFromStart start → AreFromStart found

-- these are the windows of greater value
pub record IsGreaterOf (table : Table) (fixed : List (Option ℕ)) (a b greater : List Window) : Type 0 where
  pub one : (greater ≡ a) ⊎ (greater ≡ b)
  pub first : value_of_windows table fixed a ≤ℤ value_of_windows table fixed greater
  pub second : value_of_windows table fixed b ≤ℤ value_of_windows table fixed greater

-- the windows before this place precede another one, and the one at it doesn't
pub record IsPlace (windows : List Window) (window : Window) (place : ℕ) : Type 0 where
  pub within : place ≤ length windows
  pub before : (k : ℕ) (d : Window) → k < place → Precedes (slice_index_or windows k d) window
  pub behind : (d : Window) → place < length windows → Precedes (slice_index_or windows place d) window → ⊥

-- some windows have at least the value of those at the start with the lambda of one of the first n changed
abbrev pub BeatFirstChanges : Table → List (Option ℕ) → (n : ℕ) → (start found : List Window) → Type 0
BeatFirstChanges table fixed n start found =
    (k : ℕ) (window : Window) (lambda : ℕ) → k < n → slice_get start k ≡ Some window → lambda ≤ LAMBDA_MOST
    → value_of_windows table fixed (slice_set start k (with_lambda window lambda)) ≤ℤ value_of_windows table fixed found
