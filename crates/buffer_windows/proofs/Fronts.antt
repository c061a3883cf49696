-- What of a list stands together: what passes a test from one place up to another, and the fronts that fit.
use Rattle.std.proofs.Common.{◌≡◌, ℕ, zero, suc, ◌+◌, ◌<◌, ◌≤◌, Bool, true, false, cond, List, [], ◌∷◌, length, take, drop, filter, get_or, fold, max, count_by, refl, sym, ap, ◌∙◌, arith}
use Rattle.std.specs.List.{range_with_len}
use Rattle.std.proofs.lemmas.List.Sums.{sum_by-cons, fold_more}

-- what passes a test exactly at so many places from one on
pub filter_places : {X : Type 0} (test : X → Bool) (xs : List X) (low size : ℕ)
    → ((k : ℕ) (d : X) → k < length xs → low ≤ k → k < low + size → test (get_or xs k d) ≡ true)
    → ((k : ℕ) (d : X) → k < length xs → k < low → test (get_or xs k d) ≡ false)
    → ((k : ℕ) (d : X) → k < length xs → low + size ≤ k → test (get_or xs k d) ≡ false) → filter test xs ≡ take size (drop low xs)
filter_places test [] zero zero inside early late = refl
filter_places test [] zero (suc size) inside early late = refl
filter_places test [] (suc low) zero inside early late = refl
filter_places test [] (suc low) (suc size) inside early late = refl
filter_places test (x ∷ xs) zero zero inside early late =
    rw (late 0 x (omega arith) (omega arith))
    (filter_places test xs 0 0 (λ k d within low high. absurd (omega arith)) (λ k d within low. absurd (omega arith)) (λ k d within high. late (suc k) d (omega arith) (omega arith))
    ∙ nothing xs)
  where
    nothing : {X : Type 0} (xs : List X) → take 0 (drop 0 xs) ≡ []
    nothing [] = refl
    nothing (x ∷ xs) = refl
filter_places test (x ∷ xs) zero (suc size) inside early late =
    rw (inside 0 x (omega arith) (omega arith) (omega arith))
    (ap (λ rest. x ∷ rest) (filter_places test xs 0 size (λ k d within low below. inside (suc k) d (omega arith) (omega arith) (omega arith))
    (λ k d within low. absurd (omega arith)) (λ k d within above. late (suc k) d (omega arith) (omega arith)) ∙ whole xs size))
  where
    whole : {X : Type 0} (xs : List X) (n : ℕ) → take n (drop 0 xs) ≡ take n xs
    whole [] n = refl
    whole (x ∷ xs) n = refl
filter_places test (x ∷ xs) (suc low) size inside early late =
    rw (early 0 x (omega arith) (omega arith))
    (filter_places test xs low size (λ k d within from below. inside (suc k) d (omega arith) (omega arith) (omega arith))
    (λ k d within below. early (suc k) d (omega arith) (omega arith)) (λ k d within above. late (suc k) d (omega arith) (omega arith)))

-- numbers of which none passes
count_none : (p : ℕ → Bool) (from n : ℕ) → ((k : ℕ) → from ≤ k → k < from + n → p k ≡ false) → count_by p (range_with_len from n) ≡ 0
count_none p from zero fail = refl
count_none p from (suc n) fail =
    let here : cond (p from) 1 0 ≡ 0 = ap {B = ℕ} (λ b. cond b 1 0) (fail from (omega arith) (omega arith)) in
    omega (
      arith,
      sum_by-cons (λ k. cond (p k) 1 0) from (range_with_len (from + 1) n),
      here,
      count_none p (from + 1) n (λ k low high. fail k (omega arith) (omega arith)),
    )

-- numbers of which the first ones pass, and the others don't
pub count_front : (p : ℕ → Bool) (from k more : ℕ) → ((n : ℕ) → from ≤ n → n < from + k → p n ≡ true) → ((n : ℕ) → from + k ≤ n → n < from + (k + more) → p n ≡ false)
    → count_by p (range_with_len from (k + more)) ≡ k
count_front p from zero more pass fail =
    let size : 0 + more ≡ more = omega arith in
    ap (λ n. count_by p (range_with_len from n)) size ∙ count_none p from more (λ n low high. fail n (omega arith) (omega arith))
count_front p from (suc k) more pass fail =
    let size : suc k + more ≡ suc (k + more) = omega arith in
    let here : cond (p from) 1 0 ≡ 1 = ap {B = ℕ} (λ b. cond b 1 0) (pass from (omega arith) (omega arith)) in
    omega (
      arith,
      ap (λ n. count_by p (range_with_len from n)) size,
      sum_by-cons (λ n. cond (p n) 1 0) from (range_with_len (from + 1) (k + more)),
      here,
      count_front p (from + 1) k more (λ n low high. pass n (omega arith) (omega arith)) (λ n low high. fail n (omega arith) (omega arith)),
    )

-- a front of a front
pub take_less : {X : Type 0} (xs : List X) (n k : ℕ) → n ≤ k → take n (take k xs) ≡ take n xs
take_less xs zero k order = none (take k xs) ∙ sym (none xs)
  where
    none : {X : Type 0} (xs : List X) → take 0 xs ≡ []
    none [] = refl
    none (x ∷ xs) = refl
take_less xs (suc n) zero order = absurd (omega arith)
take_less [] (suc n) (suc k) order = refl
take_less (x ∷ xs) (suc n) (suc k) order = ap (λ rest. x ∷ rest) (take_less xs n k (omega arith))

-- the greatest of the first of some numbers that don't fall is the last of them
pub max_rising : (xs : List ℕ) → ((i j : ℕ) → i ≤ j → j < length xs → get_or xs i 0 ≤ get_or xs j 0) → (i : ℕ) → i < length xs
    → fold max 0 (take (i + 1) xs) ≡ get_or xs i 0
max_rising xs rise zero within =
    let own : fold max 0 (take (0 + 1) xs) ≡ max (fold max 0 (take 0 xs)) (get_or xs 0 0) = fold_more max 0 xs 0 0 within in
    let none : fold max 0 (take 0 xs) ≡ 0 = first xs in
    omega (arith, own, none)
  where
    first : (xs : List ℕ) → fold max 0 (take 0 xs) ≡ 0
    first [] = refl
    first (x ∷ xs) = refl
max_rising xs rise (suc i) within =
    let own : fold max 0 (take (suc i + 1) xs) ≡ max (fold max 0 (take (suc i) xs)) (get_or xs (suc i) 0) = fold_more max 0 xs (suc i) 0 within in
    let size : suc i ≡ i + 1 = omega arith in
    let before : fold max 0 (take (suc i) xs) ≡ get_or xs i 0 = ap (λ n. fold max 0 (take n xs)) size ∙ max_rising xs rise i (omega arith) in
    omega (arith, own, before, rise i (suc i) (omega arith) within)
