-- Sums over numbers from one on.
use Rattle.std.proofs.Common.{◌≡◌, ℕ, zero, suc, ◌+◌, ◌-◌, ◌<◌, ◌≤◌, ℤ, pos, List, get_or, refl, sym, ◌∙◌, ap, ap₂, arith}
use Rattle.std.specs.List.{range_with_len}
use Rattle.std.proofs.lemmas.List.Sums.{sum_by-cons}
use Rattle.requantiser.specs.Distortion.{squared_difference, difference_of}
use Rattle.requantiser.specs.Private.Sums.{sum_from}

-- the first number, then the others
pub sum_from-suc : (f : ℕ → ℕ) (a n : ℕ) → sum_from f a (suc n) ≡ f a + sum_from f (a + 1) n
unfolding sum_from
sum_from-suc f a n = sum_by-cons f a (range_with_len (a + 1) n)

pub sum_from-none : (f : ℕ → ℕ) (a : ℕ) → sum_from f a 0 ≡ 0
unfolding sum_from
sum_from-none f a = refl

-- one more number is summed
pub one_more_number : (f : ℕ → ℕ) (sum i end x all : ℕ) → i < end → x ≡ f i → sum + sum_from f i (end - i) ≡ all → sum + x + sum_from f (i + 1) (end - (i + 1)) ≡ all
one_more_number f sum i end x all below is rest =
    let count : end - i ≡ suc (end - (i + 1)) = omega arith in
    omega (arith, rest, is, ap (sum_from f i) count, sum_from-suc f i (end - (i + 1)))

-- all numbers are summed
pub no_more_number : (f : ℕ → ℕ) (sum i end all : ℕ) → end ≤ i → sum + sum_from f i (end - i) ≡ all → sum ≡ all
no_more_number f sum i end all past rest =
    let count : end - i ≡ 0 = omega arith in
    omega (arith, rest, ap (sum_from f i) count, sum_from-none f i)

-- sums of equal numbers are equal
pub sum_from-same : (f g : ℕ → ℕ) (a n : ℕ) → ((k : ℕ) → a ≤ k → k < a + n → f k ≡ g k) → sum_from f a n ≡ sum_from g a n
sum_from-same f g a zero same = sum_from-none f a ∙ sym (sum_from-none g a)
sum_from-same f g a (suc n) same =
    sum_from-suc f a n ∙ ap₂ (λ x y. x + y) (same a (omega arith) (omega arith)) (sum_from-same f g (a + 1) n (λ k low high. same k (omega arith) (omega arith)))
    ∙ sym (sum_from-suc g a n)

-- ---- differences of coefficients

-- the sum of the squares of the differences in a block
abbrev pub block_difference : (ℕ → ℕ → ℤ) → (ℕ → ℕ → ℤ) → ℕ → ℕ
block_difference f g i = sum_from (λ index. squared_difference (f i index) (g i index)) 0 64

pub difference_of-blocks : (f g : ℕ → ℕ → ℤ) → sum_from (block_difference f g) 0 6 ≡ difference_of f g
unfolding sum_from difference_of
difference_of-blocks f g = refl

-- the difference of two lists of numbers is that of a block whose coefficients they are
pub block_difference-is : (f g : ℕ → ℕ → ℤ) (i : ℕ) (xs ys : List ℤ)
    → ((index : ℕ) → index < 64 → get_or xs index (pos 0) ≡ f i index) → ((index : ℕ) → index < 64 → get_or ys index (pos 0) ≡ g i index)
    → sum_from (λ index. squared_difference (get_or xs index (pos 0)) (get_or ys index (pos 0))) 0 64 ≡ block_difference f g i
block_difference-is f g i xs ys first second =
    sum_from-same (λ index. squared_difference (get_or xs index (pos 0)) (get_or ys index (pos 0))) (λ index. squared_difference (f i index) (g i index)) 0 64
    (λ index low high. ap₂ squared_difference (first index (omega arith)) (second index (omega arith)))
