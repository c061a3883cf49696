-- The first best of several multipliers.
use Rattle.std.proofs.Common.{◌≡◌, ℕ, ◌<◌, ◌≤◌, ◌⊎◌, List, [], ◌∷◌, ◌++◌, get_or, Option, refl, sym, subst, ◌∙◌, inl, inr, arith, ℤ, ◌≤ℤ◌, ◌<ℤ◌, suc, ◌+ℤ◌}
use Rattle.std.specs.List.{Contains}
use Rattle.std.proofs.lemmas.Bool.{cases_lt}
use Rattle.std.proofs.lemmas.Int.{by_lt_z, ints}
use Rattle.std.proofs.lemmas.List.Elements.{Contains-append_left, Contains-append_right, Contains-append_cases}
use Rattle.version_table.specs.declared.table.Table.{Table}
use Rattle.dual_bounds.specs.declared.constants.TheConstants.{LAMBDA_MOST}
use Rattle.dual_bounds.specs.declared.windows.Multiplier.{Multiplier}
use Rattle.dual_bounds.specs.declared.windows.Window.{Window}
use Rattle.dual_bounds.specs.Values.{value_of_multipliers}
use Rattle.dual_bounds.proofs.Concave.{value-concave}
use Rattle.multiplier_search.specs.Private.Lambda.{BetterOf, EndsRise, RisesTo, value_at, value_beside}
use Rattle.multiplier_search.specs.Single.{IsFirstBest, IsNoWorseMultiplier, value_alone}
use Rattle.multiplier_search.proofs.Rises.{less_below, no_greater_behind}

-- along the lambdas of one window beside others, each rise of the value is at most the one before
pub values_concave : (table : Table) (fixed : List (Option ℕ)) (windows : List Window) (from due k : ℕ)
    → (value_beside table fixed windows from due k +ℤ value_beside table fixed windows from due (suc (suc k)))
    ≤ℤ (value_beside table fixed windows from due (suc k) +ℤ value_beside table fixed windows from due (suc k))
values_concave table fixed windows from due k = value-concave table fixed from due k windows

pub no_worse_twice : (table : Table) (fixed : List (Option ℕ)) (a b c : Multiplier) → IsNoWorseMultiplier table fixed a b → IsNoWorseMultiplier table fixed b c → IsNoWorseMultiplier table fixed a c
no_worse_twice table fixed a b c (inl more) (inl more') = inl (omega (arith, ints))
no_worse_twice table fixed a b c (inl more) (inr same) = inl (subst (λ (z : ℤ). z <ℤ value_alone table fixed a) (sym same.0) more)
no_worse_twice table fixed a b c (inr same) (inl more) = inl (subst (λ (z : ℤ). value_alone table fixed c <ℤ z) same.0 more)
no_worse_twice table fixed a b c (inr same) (inr same') = inr (same'.0 ∙ same.0, order same.1 same'.1)
  where
    order : (a.due < b.due) ⊎ ((a.due ≡ b.due) × (a.lambda ≤ b.lambda)) → (b.due < c.due) ⊎ ((b.due ≡ c.due) × (b.lambda ≤ c.lambda))
        → (a.due < c.due) ⊎ ((a.due ≡ c.due) × (a.lambda ≤ c.lambda))
    order (inl less) (inl less') = inl (omega arith)
    order (inl less) (inr like) = inl (omega (arith, like.0))
    order (inr like) (inl less) = inl (omega (arith, like.0))
    order (inr like) (inr like') = inr (like.0 ∙ like'.0, omega (arith, like.1, like'.1))

-- one of two lists' first best that is no worse than the other is the first best of both lists
best_left : (table : Table) (fixed : List (Option ℕ)) (dues more : List ℕ) (a b : Multiplier) → IsFirstBest table fixed dues a → IsFirstBest table fixed more b → IsNoWorseMultiplier table fixed a b
    → IsFirstBest table fixed (dues ++ more) a
best_left table fixed dues more a b best best' no_worse = record {
  candidate = record { due = Contains-append_left dues more a.due best.candidate.due; lambda = best.candidate.lambda };
  first = λ other is. elim (Contains-append_cases dues more other.due is.due) as (λ _. IsNoWorseMultiplier table fixed a other) [
    | inl here ↦ best.first other (record { due = here; lambda = is.lambda })
    | inr there ↦ no_worse_twice table fixed a b other no_worse (best'.first other (record { due = there; lambda = is.lambda }))
  ];
}

best_right : (table : Table) (fixed : List (Option ℕ)) (dues more : List ℕ) (a b : Multiplier) → IsFirstBest table fixed dues a → IsFirstBest table fixed more b → IsNoWorseMultiplier table fixed b a
    → IsFirstBest table fixed (dues ++ more) b
best_right table fixed dues more a b best best' no_worse = record {
  candidate = record { due = Contains-append_right dues more b.due best'.candidate.due; lambda = best'.candidate.lambda };
  first = λ other is. elim (Contains-append_cases dues more other.due is.due) as (λ _. IsNoWorseMultiplier table fixed b other) [
    | inl here ↦ no_worse_twice table fixed b a other no_worse (best.first other (record { due = here; lambda = is.lambda }))
    | inr there ↦ best'.first other (record { due = there; lambda = is.lambda })
  ];
}

pub best_of_both : (table : Table) (fixed : List (Option ℕ)) (dues more : List ℕ) (a b better : Multiplier) → IsFirstBest table fixed dues a → IsFirstBest table fixed more b
    → BetterOf table fixed a b better → IsFirstBest table fixed (dues ++ more) better
best_of_both table fixed dues more a b better best best' (inl first) =
    subst (λ (m : Multiplier). IsFirstBest table fixed (dues ++ more) m) (sym first.0) (best_left table fixed dues more a b best best' first.1)
best_of_both table fixed dues more a b better best best' (inr second) =
    subst (λ (m : Multiplier). IsFirstBest table fixed (dues ++ more) m) (sym second.0) (best_right table fixed dues more a b best best' second.1)

-- ---- at one due time
pub no_time : (time : ℕ) → Contains [] time → ⊥
no_time time (k, within, is) = omega arith

pub Contains-one : (x y : ℕ) → Contains (x ∷ []) y → x ≡ y
Contains-one x y (k, within, is) =
    let first : k ≡ 0 = omega arith in
    let there : get_or (x ∷ []) 0 y ≡ y = subst (λ n. get_or (x ∷ []) n y ≡ y) first is in
    there

beside : (table : Table) (fixed : List (Option ℕ)) (due lambda : ℕ) → RisesTo (value_at table fixed 0 due) lambda → EndsRise (value_at table fixed 0 due) lambda → (k : ℕ) → k ≤ LAMBDA_MOST
    → IsNoWorseMultiplier table fixed (record { due = due; lambda = lambda }) (record { due = due; lambda = k })
unfolding value_alone value_of_multipliers
beside table fixed due lambda rises ends k limit =
    let value : ℕ → ℤ = value_at table fixed 0 due in
    elim (cases_lt k lambda) as (λ _. IsNoWorseMultiplier table fixed (record { due = due; lambda = lambda }) (record { due = due; lambda = k })) [
      | inl below ↦ inl (less_below value (values_concave table fixed [] 0 due) lambda k rises below)
      | inr from ↦
          (let most : value k ≤ℤ value lambda = no_greater_behind value (values_concave table fixed [] 0 due) lambda k ends from limit in
          by_lt_z (value k) (value lambda) (λ less. inl less)
          (λ least. (let same : value k ≡ value lambda = omega (arith, ints) in inr (same, inr (refl, from)))))
    ]

pub best_at_due : (table : Table) (fixed : List (Option ℕ)) (due lambda : ℕ) → lambda ≤ LAMBDA_MOST → RisesTo (value_at table fixed 0 due) lambda → EndsRise (value_at table fixed 0 due) lambda
    → IsFirstBest table fixed (due ∷ []) (record { due = due; lambda = lambda })
best_at_due table fixed due lambda most rises ends = record {
  candidate = record { due = (0, omega arith, refl); lambda = most };
  first = λ other is. (let same : due ≡ other.due = Contains-one due other.due is.due in
      subst (λ d. IsNoWorseMultiplier table fixed (record { due = due; lambda = lambda }) (record { due = d; lambda = other.lambda })) same
      (beside table fixed due lambda rises ends other.lambda is.lambda));
}
