-- Leaves in a heap.
use Rattle.std.proofs.Common.{◌≡◌, ◌≢◌, ℕ, zero, suc, ◌+◌, ◌<◌, ◌≤◌, ◌==◌, ◌⊎◌, inl, inr, Bool, true, false, cond, nat_lt, List, [], ◌∷◌, Some, None, refl, sym, ap, subst, ◌∙◌, arith}
use Rattle.std.specs.List.{AllByRecursion, Contains}
use Rattle.std.specs.List.Sorted.{IsPermutation}
use Rattle.std.specs.Ordering.{nat_cmp, ordering_then, is_lt}
use Rattle.std.specs.BinaryHeap.{IsUpperBound}
use Rattle.std.specs.declared.cmp.Reverse.{Reverse}
use Rattle.std.proofs.lemmas.Bool.{eqb-true, eqb-false, cases_lt, lt-ltb}
use Rattle.std.proofs.lemmas.List.Sorted.{Contains-permutation, IsPermutation-sym, sum_by-IsPermutation}
use Rattle.std.proofs.lemmas.List.Sums.{sum_by-cons}
use Rattle.branch_plan.specs.Private.Branching.{IsWith, times_in}

-- ---- what a list contains
pub contains_more : (x y : Reverse (ℕ × ℕ)) (xs : List (Reverse (ℕ × ℕ))) → Contains xs y → Contains (x ∷ xs) y
contains_more x y xs (k, within, is) = (suc k, omega (arith, within), is)

pub contains_first : (x : Reverse (ℕ × ℕ)) (xs : List (Reverse (ℕ × ℕ))) → Contains (x ∷ xs) x
contains_first x xs = (0, omega arith, refl)

pub first_or_more : (x y : Reverse (ℕ × ℕ)) (xs : List (Reverse (ℕ × ℕ))) → Contains (x ∷ xs) y → (y ≡ x) ⊎ Contains xs y
first_or_more x y xs (zero, within, is) = inl (sym is)
first_or_more x y xs (suc k, within, is) = inr (k, omega (arith, within), is)

pub all_contained : (low : ℕ) (xs : List (Reverse (ℕ × ℕ))) (y : Reverse (ℕ × ℕ)) → AllByRecursion (λ (other : Reverse (ℕ × ℕ)). low ≤ other.0.0) xs → Contains xs y → low ≤ y.0.0
all_contained low [] y all (k, within, is) = absurd (omega (arith, within))
all_contained low (x ∷ xs) y all (zero, within, is) = subst (λ (z : Reverse (ℕ × ℕ)). low ≤ z.0.0) is all.0
all_contained low (x ∷ xs) y all (suc k, within, is) = all_contained low xs y all.1 (k, omega (arith, within), is)

-- ---- how often a number stands
pub times-more : (j : ℕ) (x : Reverse (ℕ × ℕ)) (xs : List (Reverse (ℕ × ℕ))) → times_in j (x ∷ xs) ≡ cond (x.0.1 == j) 1 0 + times_in j xs
unfolding times_in
times-more j x xs = sum_by-cons (λ (leaf : Reverse (ℕ × ℕ)). cond (leaf.0.1 == j) 1 0) x xs

pub self_one : (n m : ℕ) → n ≡ m → cond {A = ℕ} (n == m) 1 0 ≡ 1
self_one n m same = by_test (n == m) refl
  where
    by_test : (is : Bool) → (n == m) ≡ is → cond {A = ℕ} is 1 0 ≡ 1
    by_test true is = refl
    by_test false is = absurd (eqb-false n m is same)

pub other_none : (n m : ℕ) → n ≢ m → cond {A = ℕ} (n == m) 1 0 ≡ 0
other_none n m differs = by_test (n == m) refl
  where
    by_test : (is : Bool) → (n == m) ≡ is → cond {A = ℕ} is 1 0 ≡ 0
    by_test true is = absurd (differs (eqb-true n m is))
    by_test false is = refl

pub times_some : (j : ℕ) (xs : List (Reverse (ℕ × ℕ))) (y : Reverse (ℕ × ℕ)) → Contains xs y → y.0.1 ≡ j → 0 < times_in j xs
times_some j [] y (k, within, is) same = absurd (omega (arith, within))
times_some j (x ∷ xs) y (zero, within, is) same =
    omega (arith, times-more j x xs, self_one x.0.1 j (ap (λ (z : Reverse (ℕ × ℕ)). z.0.1) is ∙ same))
times_some j (x ∷ xs) y (suc k, within, is) same = omega (arith, times-more j x xs, times_some j xs y (k, omega (arith, within), is) same)

pub times_none : (j : ℕ) (xs : List (Reverse (ℕ × ℕ))) → ((y : Reverse (ℕ × ℕ)) → Contains xs y → y.0.1 ≢ j) → times_in j xs ≡ 0
unfolding times_in
times_none j [] none = refl
times_none j (x ∷ xs) none =
    omega (arith, times-more j x xs, other_none x.0.1 j (none x (contains_first x xs)), times_none j xs (λ y there. none y (contains_more x y xs there)))

pub times_permuted : (j : ℕ) (xs ys : List (Reverse (ℕ × ℕ))) → IsPermutation xs ys → times_in j ys ≡ times_in j xs
unfolding times_in
times_permuted j xs ys same = sum_by-IsPermutation (λ (leaf : Reverse (ℕ × ℕ)). cond (leaf.0.1 == j) 1 0) xs ys same

-- ---- one more leaf
pub with_one : (bound number : ℕ) (old new : List (Reverse (ℕ × ℕ))) → IsPermutation (record { 0 = (bound, number) } ∷ old) new → IsWith (Some bound) number old new
with_one bound number old new same =
    let leaf : Reverse (ℕ × ℕ) = record { 0 = (bound, number) } in
    record {
      kept = λ y there. Contains-permutation (leaf ∷ old) new y same (contains_more leaf y old there);
      new = λ b is. (leaf, Contains-permutation (leaf ∷ old) new leaf same (contains_first leaf old), some_same bound b is, refl);
      only = λ y there. only_in leaf y (first_or_more leaf y old (Contains-permutation new (leaf ∷ old) y (IsPermutation-sym (leaf ∷ old) new same) there));
      times = λ j. omega (arith, times_permuted j (leaf ∷ old) new same, times-more j leaf old);
    }
  where
    some_same : (a b : ℕ) → Some a ≡ Some b → a ≡ b
    some_same a b is = grind (arith, is)

    only_in : (leaf y : Reverse (ℕ × ℕ)) → (y ≡ leaf) ⊎ Contains old y → Contains old y ⊎ ((Some leaf.0.0 ≡ Some y.0.0) × (y.0.1 ≡ leaf.0.1))
    only_in leaf y (inl is) = inr (sym (ap (λ (z : Reverse (ℕ × ℕ)). Some z.0.0) is), ap (λ (z : Reverse (ℕ × ℕ)). z.0.1) is)
    only_in leaf y (inr there) = inl there

pub with_none : (number : ℕ) (old new : List (Reverse (ℕ × ℕ))) → new ≡ old → IsWith None number old new
with_none number old new same =
    record {
      kept = λ y there. subst (λ (xs : List (Reverse (ℕ × ℕ))). Contains xs y) (sym same) there;
      new = λ b is. absurd (grind (arith, is));
      only = λ y there. inl (subst (λ (xs : List (Reverse (ℕ × ℕ))). Contains xs y) same there);
      times = λ j. omega (arith, ap (times_in j) same);
    }

-- ---- the least one
not_lower : (low other a b : ℕ) → is_lt (ordering_then (nat_cmp other low) (nat_cmp a b)) ≡ false → low ≤ other
not_lower low other a b not_less = elim (cases_lt other low) as (λ _. low ≤ other) [
  | inl less ↦ absurd (lower (lt-ltb other low less))
  | inr more ↦ more
]
  where
    lower : nat_lt other low ≡ true → ⊥
    lower is = grind (arith, is, not_less)

pub least_below : (top : Reverse (ℕ × ℕ)) (xs : List (Reverse (ℕ × ℕ)))
    → IsUpperBound (λ (a b : Reverse (ℕ × ℕ)). ordering_then (nat_cmp b.0.0 a.0.0) (nat_cmp b.0.1 a.0.1)) top xs → AllByRecursion (λ (other : Reverse (ℕ × ℕ)). top.0.0 ≤ other.0.0) xs
least_below top [] upper = tt
least_below top (x ∷ xs) upper = (not_lower top.0.0 x.0.0 x.0.1 top.0.1 upper.0, least_below top xs upper.1)
