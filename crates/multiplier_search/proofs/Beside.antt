-- The lambda of one window, the others kept.
use Rattle.std.proofs.Common.{◌≡◌, ℕ, suc, ◌<◌, ◌≤◌, List, ◌∷◌, ◌++◌, length, take, drop, Option, ap, ◌∙◌, arith, ◌+ℤ◌, ◌≤ℤ◌}
use Rattle.std.proofs.lemmas.Int.{ints}
use Rattle.std.proofs.lemmas.List.{set_split}
use Rattle.version_table.specs.declared.table.Table.{Table}
use Rattle.dual_bounds.specs.declared.constants.TheConstants.{LAMBDA_MOST}
use Rattle.dual_bounds.specs.declared.windows.Window.{Window}
use Rattle.dual_bounds.specs.Values.{value_of_windows}
use Rattle.dual_bounds.proofs.Concave.{value-concave}
use Rattle.dual_bounds.proofs.ValueLaws.{any_order}
use Rattle.multiplier_search.specs.Private.Lambda.{EndsRise, RisesTo, value_with}
use Rattle.multiplier_search.proofs.Rises.{greatest_at}

module _ (table : Table) (fixed : List (Option ℕ)) (windows : List Window) (place from due : ℕ) (within : place < length windows) where
  abbrev pub window : ℕ → Window
  window n = record { from = from; due = due; lambda = n }

  abbrev pub others : List Window
  others = take place windows ++ drop (suc place) windows

  pub first-with : (n : ℕ) → value_with table fixed windows place from due n ≡ value_of_windows table fixed (window n ∷ others)
  first-with n = ap (value_of_windows table fixed) (set_split windows place (window n) within) ∙ any_order table fixed (take place windows) (window n) (drop (suc place) windows)

  pub with-concave : (k : ℕ)
      → (value_with table fixed windows place from due k +ℤ value_with table fixed windows place from due (suc (suc k)))
      ≤ℤ (value_with table fixed windows place from due (suc k) +ℤ value_with table fixed windows place from due (suc k))
  with-concave k =
      let low = first-with k in
      let middle = first-with (suc k) in
      let high = first-with (suc (suc k)) in
      let concave = value-concave table fixed from due k others in
      omega (arith, ints)

  -- the lambda that ends the rise has the greatest value
  pub greatest-with : (lambda k : ℕ) → RisesTo (value_with table fixed windows place from due) lambda → EndsRise (value_with table fixed windows place from due) lambda → k ≤ LAMBDA_MOST
      → value_with table fixed windows place from due k ≤ℤ value_with table fixed windows place from due lambda
  greatest-with lambda k rises ends limit = greatest_at (value_with table fixed windows place from due) with-concave lambda k rises ends limit
