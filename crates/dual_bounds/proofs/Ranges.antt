-- How many numbers below some number pass a test.
use Rattle.std.proofs.Common.{◌≡◌, ℕ, zero, suc, ◌+◌, ◌-◌, ◌<◌, ◌≤◌, Bool, true, false, cond, List, [], ◌∷◌, ◌++◌, count_by, sym, ap, ◌∙◌, inl, inr, add-zero, arith}
use Rattle.std.specs.List.{range_with_len}
use Rattle.std.proofs.lemmas.Bool.{cases_lt, false_from_ne_true}
use Rattle.std.proofs.lemmas.List.Sums.{sum_by_push}

pub range_more : (a n : ℕ) → range_with_len a (suc n) ≡ range_with_len a n ++ (a + n) ∷ []
range_more a zero = ap (λ k. k ∷ []) (sym (add-zero a))
range_more a (suc n) =
    let place : (a + 1) + n ≡ a + suc n = omega arith in
    ap (λ (rest : List ℕ). a ∷ rest) (range_more (a + 1) n ∙ ap (λ k. range_with_len (a + 1) n ++ k ∷ []) place)

-- the numbers below n that pass
abbrev pub count_below : (ℕ → Bool) → ℕ → ℕ
count_below p n = count_by p (range_with_len 0 n)

-- one more number
pub count_below-more : (p : ℕ → Bool) (n : ℕ) → count_below p (suc n) ≡ count_below p n + cond (p n) 1 0
count_below-more p n =
    let same : 0 + n ≡ n = omega arith in
    ap (count_by p) (range_more 0 n) ∙ sum_by_push (λ k. cond (p k) 1 0) (range_with_len 0 n) (0 + n) ∙ ap (λ k. count_below p n + cond (p k) 1 0) same

-- more numbers are no fewer that pass
pub count_below-rises : (p : ℕ → Bool) (n more : ℕ) → count_below p n ≤ count_below p (n + more)
count_below-rises p n zero = omega (arith, ap (count_below p) (add-zero n))
count_below-rises p n (suc more) =
    let next : n + suc more ≡ suc (n + more) = omega arith in
    omega (arith, ap (count_below p) next, count_below-more p (n + more), count_below-rises p n more)

-- where each number that passes is below m, no more pass than below m
pub count_below-within : (p : ℕ → Bool) (m : ℕ) → ((k : ℕ) → p k ≡ true → k < m) → (n : ℕ) → count_below p n ≤ count_below p m
count_below-within p m within zero = omega arith
count_below-within p m within (suc n) =
    elim (cases_lt n m) as (λ _. count_below p (suc n) ≤ count_below p m) [
      | inl below ↦
          (let whole : suc n + (m - suc n) ≡ m = omega arith in
          omega (arith, count_below-rises p (suc n) (m - suc n), ap (count_below p) whole))
      | inr past ↦
          (let fails : p n ≡ false = false_from_ne_true (p n) (λ e. (let less : n < m = within n e in absurd (omega arith))) in
          omega (arith, count_below-more p n, ap {B = ℕ} (λ b. cond b 1 0) fails, count_below-within p m within n))
    ]
