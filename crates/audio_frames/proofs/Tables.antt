-- Facts about a whole table, each shown by computing a test over it.
use Rattle.std.proofs.Common.{◌≡◌, ℕ, ◌+◌, ◌<◌, ◌≤◌, ◌*◌, ◌/◌, ◌%◌, List, Bool, true, ◌&&◌, nat_le, length, get_or, sym, ap, ◌∙◌, subst, arith}
use Rattle.std.proofs.Math.Nat.{div-mul-le_self, mul-add-div_right, mul-le-mul_left, le_trans}
use Rattle.std.proofs.lemmas.Nat.{div-add-mod'}
use Rattle.std.proofs.lemmas.Bool.{and_parts, leb-true}
use Rattle.std.specs.List.{list_all}
use Rattle.std.proofs.lemmas.List.Sums.{AllPass-from_list_all}
use Rattle.std.proofs.lemmas.List.Elements.{All-get_or}

-- where a test passes at all entries of a table, it passes at each
pub entry_passes : (test : ℕ → Bool) (xs : List ℕ) (k : ℕ) → list_all test xs ≡ true → k < length xs → test (get_or xs k 0) ≡ true
entry_passes test xs k passes within =
    All-get_or (λ x. test x ≡ true) xs k 0 within (AllPass-from_list_all test xs passes)

pub entry_within : (low high : ℕ) (xs : List ℕ) (k : ℕ) → list_all (λ x. nat_le low x && nat_le x high) xs ≡ true → k < length xs → (low ≤ get_or xs k 0) × (get_or xs k 0 ≤ high)
entry_within low high xs k passes within =
    let both : (nat_le low (get_or xs k 0) ≡ true) × (nat_le (get_or xs k 0) high ≡ true) = and_parts _ _ (entry_passes (λ x. nat_le low x && nat_le x high) xs k passes within) in
    (leb-true _ _ both.0, leb-true _ _ both.1)

-- x / d, where d is at least 16,000
pub quotient_small : (x d : ℕ) → 16000 ≤ d → x / d * 16000 ≤ x
quotient_small x d least = le_trans (mul-le-mul_left (x / d) least) (div-mul-le_self x d)

-- the whole quotient and the rest of x, each so many times
pub quotient_apart : (n x d : ℕ) → 16000 ≤ d → n * (x / d) + n * (x % d) / d ≡ n * x / d
quotient_apart n x d least =
    sym (ap (λ (m : ℕ). m / d) (product (x / d) (x % d) x (div-add-mod' x d)) ∙ mul-add-div_right (omega (arith, least)) (n * (x / d)) (n * (x % d)))
  where
    product : (q r x : ℕ) → q * d + r ≡ x → n * x ≡ n * q * d + n * r
    product q r x is = subst (λ (x : ℕ). n * x ≡ n * q * d + n * r) is (omega arith)
