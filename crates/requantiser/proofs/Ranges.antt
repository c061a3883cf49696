-- The first number of a range that passes a test.
use Rattle.std.proofs.Common.{◌≡◌, ℕ, zero, suc, ◌+◌, ◌<◌, ◌≤◌, Some, None, Bool, true, false, refl, sym, ◌∙◌, ap, subst, ◌⊎◌, inl, inr, arith, cond, zero-add}
use Rattle.std.specs.Prelude.{find}
use Rattle.std.specs.List.{range_with_len, list_all}
use Rattle.std.proofs.lemmas.Bool.{cases_eq, cases_Bool}
use Rattle.std.proofs.lemmas.List.Sums.{AllPass-from_list_all}
use Rattle.std.proofs.lemmas.List.Elements.{All-get_or}
use Rattle.std.proofs.lemmas.List.FromFn.{get_or-range_with_len, length-range_with_len}

-- a test that all numbers below a bound pass
pub number_passes : (p : ℕ → Bool) (end i : ℕ) → i < end → list_all p (range_with_len 0 end) ≡ true → p i ≡ true
number_passes p end i below all =
    subst (λ k. p k ≡ true) (get_or-range_with_len 0 end i 0 below ∙ zero-add i)
    (All-get_or (λ k. p k ≡ true) (range_with_len 0 end) i 0 (omega (arith, length-range_with_len 0 end)) (AllPass-from_list_all p (range_with_len 0 end) all))

-- the first number from a on, below a bound, that passes
pub record IsFirst (p : ℕ → Bool) (a end k : ℕ) : Type 0 where
  pub from : a ≤ k
  pub below : k < end
  pub passes : p k ≡ true
  pub none_before : (i : ℕ) → a ≤ i → i < k → p i ≡ false

pub find-some : (p : ℕ → Bool) (a n k : ℕ) → find p (range_with_len a n) ≡ Some k → IsFirst p a (a + n) k
find-some p a zero k found = let e : None ≡ Some k = found in absurd (cc)
find-some p a (suc n) k found = by_test (find-some p (a + 1) n k) (cases_Bool (p a))
  where
    by_test : (find p (range_with_len (a + 1) n) ≡ Some k → IsFirst p (a + 1) (a + 1 + n) k) → (p a ≡ true) ⊎ (p a ≡ false) → IsFirst p a (a + suc n) k
    by_test rest (inl passing) =
        let e : Some a ≡ Some k = sym (ap (λ b. cond b (Some a) (find p (range_with_len (a + 1) n))) passing) ∙ found in
        let same : a ≡ k = cc in
        record { from = omega arith; below = omega arith; passes = subst (λ x. p x ≡ true) same passing; none_before = λ i low high. absurd (omega arith) }
    by_test rest (inr failing) =
        let later : IsFirst p (a + 1) (a + 1 + n) k = rest (sym (ap (λ b. cond b (Some a) (find p (range_with_len (a + 1) n))) failing) ∙ found) in
        record { from = omega (arith, later.from); below = omega (arith, later.below); passes = later.passes; none_before = λ i low high. before later i high (cases_eq i a) low }
      where
        before : IsFirst p (a + 1) (a + 1 + n) k → (i : ℕ) → i < k → (i ≡ a) ⊎ (i ≡ a → ⊥) → a ≤ i → p i ≡ false
        before later i high (inl here) low = subst (λ x. p x ≡ false) (sym here) failing
        before later i high (inr there) low = later.none_before i (omega arith) high

pub find-none : (p : ℕ → Bool) (a n : ℕ) → find p (range_with_len a n) ≡ None → (i : ℕ) → a ≤ i → i < a + n → p i ≡ false
find-none p a zero found i low high = absurd (omega arith)
find-none p a (suc n) found i low high = by_test (find-none p (a + 1) n) (cases_Bool (p a)) (cases_eq i a)
  where
    by_test : (find p (range_with_len (a + 1) n) ≡ None → (i : ℕ) → a + 1 ≤ i → i < a + 1 + n → p i ≡ false)
        → (p a ≡ true) ⊎ (p a ≡ false) → (i ≡ a) ⊎ (i ≡ a → ⊥) → p i ≡ false
    by_test rest (inl passing) place =
        let e : Some a ≡ None = sym (ap (λ b. cond b (Some a) (find p (range_with_len (a + 1) n))) passing) ∙ found in absurd (cc)
    by_test rest (inr failing) (inl here) = subst (λ x. p x ≡ false) (sym here) failing
    by_test rest (inr failing) (inr there) =
        rest (sym (ap (λ b. cond b (Some a) (find p (range_with_len (a + 1) n))) failing) ∙ found) i (omega arith) (omega arith)

-- the first number that passes is found
pub find-first : (p : ℕ → Bool) (a n k : ℕ) → IsFirst p a (a + n) k → find p (range_with_len a n) ≡ Some k
find-first p a zero k first = absurd (omega (arith, first.from, first.below))
find-first p a (suc n) k first = by_place (find-first p (a + 1) n k) (cases_eq a k)
  where
    by_place : (IsFirst p (a + 1) (a + 1 + n) k → find p (range_with_len (a + 1) n) ≡ Some k) → (a ≡ k) ⊎ (a ≡ k → ⊥) → find p (range_with_len a (suc n)) ≡ Some k
    by_place rest (inl here) =
        ap (λ b. cond b (Some a) (find p (range_with_len (a + 1) n))) (subst (λ x. p x ≡ true) (sym here) first.passes) ∙ ap (λ x. Some x) here
    by_place rest (inr there) =
        ap (λ b. cond b (Some a) (find p (range_with_len (a + 1) n))) (first.none_before a (omega arith) (omega (arith, first.from)))
        ∙ rest (record { from = omega (arith, first.from); below = omega (arith, first.below); passes = first.passes; none_before = λ i low high. first.none_before i (omega arith) high })

-- nothing is found where none passes
pub find-nothing : (p : ℕ → Bool) (a n : ℕ) → ((i : ℕ) → a ≤ i → i < a + n → p i ≡ false) → find p (range_with_len a n) ≡ None
find-nothing p a zero none = refl
find-nothing p a (suc n) none =
    ap (λ b. cond b (Some a) (find p (range_with_len (a + 1) n))) (none a (omega arith) (omega arith))
    ∙ find-nothing p (a + 1) n (λ i low high. none i (omega arith) (omega arith))
