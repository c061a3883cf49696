-- The values of one window or multiplier alone, over the lambdas.
use Rattle.std.specs.Prelude.{◌≡◌, ℕ, ◌+◌, ◌<◌, ◌≤◌, ◌⊎◌, List, [], ◌∷◌, Option, MatchOption, ℤ, ◌<ℤ◌, ◌≤ℤ◌, slice_set}
use Rattle.version_table.specs.declared.table.Table.{Table}
use Rattle.dual_bounds.specs.declared.constants.TheConstants.{LAMBDA_MOST}
use Rattle.dual_bounds.specs.declared.windows.Multiplier.{Multiplier}
use Rattle.dual_bounds.specs.declared.windows.Window.{Window}
use Rattle.dual_bounds.specs.Values.{value_of_windows}
use Rattle.multiplier_search.specs.Windows.{BeatEachTried, IsSound}
use Rattle.multiplier_search.specs.Single.{IsFirstBest, IsNoWorseMultiplier}

-- the value of a window alone with this lambda
abbrev pub value_at : Table → List (Option ℕ) → (from due lambda : ℕ) → ℤ
value_at table fixed from due lambda = value_of_windows table fixed (record { from = from; due = due; lambda = lambda } ∷ [])

-- the value of a window with this lambda and some others
abbrev pub value_beside : Table → List (Option ℕ) → List Window → (from due lambda : ℕ) → ℤ
value_beside table fixed windows from due lambda = value_of_windows table fixed (record { from = from; due = due; lambda = lambda } ∷ windows)

-- the value of some windows where the one at this place is from one time to another with this lambda
abbrev pub value_with : Table → List (Option ℕ) → List Window → (place from due lambda : ℕ) → ℤ
value_with table fixed windows place from due lambda = value_of_windows table fixed (slice_set windows place (record { from = from; due = due; lambda = lambda }))

-- values rise with each lambda below this one
abbrev pub RisesTo : (ℕ → ℤ) → (lambda : ℕ) → Type 0
RisesTo value lambda = (k : ℕ) → k < lambda → value k <ℤ value (k + 1)

-- this is the greatest lambda, or the value at the next one is no greater
abbrev pub EndsRise : (ℕ → ℤ) → (lambda : ℕ) → Type 0
EndsRise value lambda = (lambda ≡ LAMBDA_MOST) ⊎ (value (lambda + 1) ≤ℤ value lambda)

-- the first best of these units' due times; none where there is none
abbrev pub IsBestOf : Table → List (Option ℕ) → List ℕ → Option Multiplier → Type 0
IsBestOf table fixed dues best = MatchOption best (dues ≡ []) (IsFirstBest table fixed dues)

-- a multiplier is due earlier than another, or at the same time with a lesser lambda
abbrev pub GoesFirst : Multiplier → (other : Multiplier) → Type 0
GoesFirst a b = (a.due < b.due) ⊎ ((a.due ≡ b.due) × (a.lambda < b.lambda))

-- the one of two multipliers that is no worse than the other
abbrev pub BetterOf : Table → List (Option ℕ) → (a b better : Multiplier) → Type 0
BetterOf table fixed a b better = ((better ≡ a) × IsNoWorseMultiplier table fixed a b) ⊎ ((better ≡ b) × IsNoWorseMultiplier table fixed b a)

-- the best of the windows that are tried for these due times; none where there is none
abbrev pub IsBestWindow : Table → List (Option ℕ) → List ℕ → Option Window → Type 0
IsBestWindow table fixed dues best = MatchOption best (dues ≡ []) (λ window. IsSound window × BeatEachTried table fixed dues (window ∷ []))

-- a window alone has at least the value of each from one time to another
abbrev pub Beats : Table → List (Option ℕ) → (from due : ℕ) → Window → Type 0
Beats table fixed from due window =
    (lambda : ℕ) → lambda ≤ LAMBDA_MOST → value_at table fixed from due lambda ≤ℤ value_of_windows table fixed (window ∷ [])

-- the one of two windows that alone has the greater value
pub record IsGreater (table : Table) (fixed : List (Option ℕ)) (a b greater : Window) : Type 0 where
  pub first : value_of_windows table fixed (a ∷ []) ≤ℤ value_of_windows table fixed (greater ∷ [])
  pub second : value_of_windows table fixed (b ∷ []) ≤ℤ value_of_windows table fixed (greater ∷ [])
