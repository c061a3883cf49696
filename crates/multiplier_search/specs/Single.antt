-- The first best multiplier alone.
use Rattle.std.specs.Prelude.{◌≡◌, ℕ, ◌+◌, ◌<◌, ◌≤◌, ◌⊎◌, List, [], ◌∷◌, length, map, All, Option, ℤ, ◌<ℤ◌, slice_index_or}
use Rattle.std.specs.List.{Contains}
use Rattle.version_table.specs.declared.table.Unit.{Unit as CodedUnit}
use Rattle.version_table.specs.declared.table.Table.{Table}
use Rattle.version_table.specs.Table.{units_of}
use Rattle.dual_bounds.specs.declared.constants.TheConstants.{LAMBDA_MOST}
use Rattle.dual_bounds.specs.declared.windows.Multiplier.{Multiplier}
use Rattle.dual_bounds.specs.Values.{value_of_multipliers}

-- the due times of some units
abbrev pub dues_of : List CodedUnit → List ℕ
dues_of units = map (λ unit. unit.due) units

-- a multiplier at one of these due times, with a lambda within its limit
pub record IsCandidate (dues : List ℕ) (multiplier : Multiplier) : Type 0 where
  pub due : Contains dues multiplier.due
  pub lambda : multiplier.lambda ≤ LAMBDA_MOST

-- multipliers as a search gives them: in the order of their due times, with lambdas within their limit
pub record AreInOrder (multipliers : List Multiplier) : Type 0 where
  pub lambdas : All (λ multiplier. multiplier.lambda ≤ LAMBDA_MOST) multipliers
  pub rise : (k : ℕ) (d : Multiplier) → k + 1 < length multipliers → (slice_index_or multipliers k d).due < (slice_index_or multipliers (k + 1) d).due

-- the value of one multiplier alone
unfoldable pub value_alone : Table → List (Option ℕ) → Multiplier → ℤ
value_alone table fixed multiplier = value_of_multipliers table fixed (multiplier ∷ [])

-- a multiplier alone has a greater value than another; or the same, and is due earlier; or both the same, and its lambda is no greater
abbrev pub IsNoWorseMultiplier : Table → List (Option ℕ) → Multiplier → (other : Multiplier) → Type 0
IsNoWorseMultiplier table fixed multiplier other =
    (value_alone table fixed other <ℤ value_alone table fixed multiplier)
    ⊎ ((value_alone table fixed other ≡ value_alone table fixed multiplier)
    × ((multiplier.due < other.due) ⊎ ((multiplier.due ≡ other.due) × (multiplier.lambda ≤ other.lambda))))

-- the first best of all multipliers at these due times: the greatest value, then the least due time, then the least lambda
pub record IsFirstBest (table : Table) (fixed : List (Option ℕ)) (dues : List ℕ) (multiplier : Multiplier) : Type 0 where
  pub candidate : IsCandidate dues multiplier
  pub first : (other : Multiplier) → IsCandidate dues other → IsNoWorseMultiplier table fixed multiplier other

-- the first best multiplier at a unit's due time, alone; none where there is no unit
abbrev pub IsBestSingle : Table → List (Option ℕ) → List Multiplier → Type 0
IsBestSingle table fixed [] = units_of table ≡ []
IsBestSingle table fixed (multiplier ∷ []) = IsFirstBest table fixed (dues_of (units_of table)) multiplier
IsBestSingle table fixed (multiplier ∷ other ∷ more) = ⊥
