-- Windows from time 0 on that are added to others.
use Rattle.std.specs.Prelude.{◌≡◌, ◌≢◌, ℕ, ◌<◌, ◌≤◌, List, length, All, Option, MatchOption, IfSome, ◌+ℤ◌, ◌≤ℤ◌, slice_index_or}
use Rattle.std.specs.List.{Contains}
use Rattle.version_table.specs.declared.table.Table.{Table}
use Rattle.dual_bounds.specs.declared.constants.TheConstants.{LAMBDA_MOST}
use Rattle.dual_bounds.specs.declared.windows.Window.{Window}
use Rattle.dual_bounds.specs.Values.{worth}
use Rattle.multiplier_search.specs.declared.additions.Addition.{Addition}
use Rattle.multiplier_search.specs.Private.Lambda.{value_beside}

-- one of some windows ends at a time
abbrev pub EndAt : List Window → (time : ℕ) → Type 0
EndAt windows time = (k : ℕ) × (k < length windows) × ((d : Window) → (slice_index_or windows k d).due ≡ time)

-- a window that may be added to others: none of them ends where it does, and its lambda is within its limit
pub record IsAdditionTo (windows : List Window) (added : Addition) : Type 0 where
  pub lambda : added.lambda ≤ LAMBDA_MOST
  pub free : All (λ window. window.due ≢ added.due) windows

-- the number that stands beside an addition is the value of all windows together, and what the others are worth
abbrev pub IsValuedBeside : Table → List (Option ℕ) → List Window → Addition → Type 0
IsValuedBeside table fixed windows added = added.value ≡ value_beside table fixed windows 0 added.due added.lambda +ℤ worth table windows

-- the best of the additions to some windows at these due times; none where there is none
pub record IsBestAddition (table : Table) (fixed : List (Option ℕ)) (windows : List Window) (dues : List ℕ) (best : Option Addition) : Type 0 where
  pub may : IfSome best (IsAdditionTo windows)
  pub valued : IfSome best (IsValuedBeside table fixed windows)
  pub each : (due lambda : ℕ) → Contains dues due → All (λ window. window.due ≢ due) windows → lambda ≤ LAMBDA_MOST
      → MatchOption best ⊥ (λ added. value_beside table fixed windows 0 due lambda ≤ℤ value_beside table fixed windows 0 added.due added.lambda)
