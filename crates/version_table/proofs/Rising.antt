-- Numbers that rise, or don't fall, from each to the next.
use Rattle.std.proofs.Common.{◌≡◌, ℕ, zero, suc, ◌+◌, ◌<◌, ◌≤◌, List, [], ◌∷◌, length, get_or, arith}
use Rattle.std.specs.List.Sorted.{IsNonDecreasing, IsStrictlyIncreasing}

-- the relation holds of each number and the next
abbrev pub Adjacent : (ℕ → ℕ → Type 0) → List ℕ → Type 0
Adjacent R [] = Unit {0}
Adjacent R (x ∷ []) = Unit {0}
Adjacent R (x ∷ y ∷ xs) = R x y × Adjacent R (y ∷ xs)

pub rising_adjacent : (xs : List ℕ) → IsStrictlyIncreasing xs → Adjacent ◌<◌ xs
rising_adjacent [] h = tt
rising_adjacent (x ∷ []) h = tt
rising_adjacent (x ∷ y ∷ xs) h = (h 0 (omega arith), rising_adjacent (y ∷ xs) (λ k lt. let e : suc k + 1 ≡ suc (k + 1) = omega arith in rw e at (h (suc k) (omega arith))))

pub adjacent_rising : (xs : List ℕ) → Adjacent ◌<◌ xs → IsStrictlyIncreasing xs
adjacent_rising [] h k lt = absurd (omega arith)
adjacent_rising (x ∷ []) h k lt = absurd (omega arith)
adjacent_rising (x ∷ y ∷ xs) h zero lt = h.0
adjacent_rising (x ∷ y ∷ xs) h (suc k) lt = let e : suc k + 1 ≡ suc (k + 1) = omega arith in rw e (adjacent_rising (y ∷ xs) h.1 k (omega arith))

pub steady_adjacent : (xs : List ℕ) → IsNonDecreasing xs → Adjacent ◌≤◌ xs
steady_adjacent [] h = tt
steady_adjacent (x ∷ []) h = tt
steady_adjacent (x ∷ y ∷ xs) h = (h 0 1 0 (omega arith) (omega arith), steady_adjacent (y ∷ xs) (λ i j d le lt. h (suc i) (suc j) d (omega arith) (omega arith)))

-- the first is the least
first_least : (x : ℕ) (xs : List ℕ) (j d : ℕ) → Adjacent ◌≤◌ (x ∷ xs) → j < length (x ∷ xs) → x ≤ get_or (x ∷ xs) j d
first_least x xs zero d h lt = omega arith
first_least x [] (suc j) d h lt = absurd (omega arith)
first_least x (y ∷ xs) (suc j) d h lt = omega (arith, h.0, first_least y xs j d h.1 (omega arith))

pub adjacent_steady : (xs : List ℕ) → Adjacent ◌≤◌ xs → IsNonDecreasing xs
adjacent_steady [] h i j d le lt = absurd (omega arith)
adjacent_steady (x ∷ xs) h zero j d le lt = first_least x xs j d h lt
adjacent_steady (x ∷ xs) h (suc i) zero d le lt = absurd (omega arith)
adjacent_steady (x ∷ []) h (suc i) (suc j) d le lt = absurd (omega arith)
adjacent_steady (x ∷ y ∷ xs) h (suc i) (suc j) d le lt = adjacent_steady (y ∷ xs) h.1 i j d (omega arith) (omega arith)
