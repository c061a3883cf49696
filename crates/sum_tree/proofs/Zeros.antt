-- A tree of zeros.
use Rattle.std.proofs.Common.{◌≡◌, ℕ, zero, suc, ◌+◌, ◌*◌, ◌^◌, replicate, get_or, refl, inl, inr, arith}
use Rattle.std.proofs.lemmas.Bool.{cases_lt}
use Rattle.std.proofs.lemmas.List.{get_or-replicate, get_or_past, length-replicate}
use Rattle.sum_tree.specs.Nodes.{AreLeftSums, IsSumTree, pairs, sum_from}

zero-at : (n j : ℕ) → get_or (replicate {A = ℕ} n 0) j 0 ≡ 0
zero-at n j = elim (cases_lt j n) as (λ _. get_or (replicate {A = ℕ} n 0) j 0 ≡ 0) [
  | inl low ↦ get_or-replicate n j 0 0 low
  | inr high ↦ get_or_past (replicate {A = ℕ} n 0) j 0 (omega (arith, length-replicate {A = ℕ} n 0))
]

zero-sums : (n height : ℕ) (number : ℕ → ℕ) → ((at : ℕ) → number at ≡ 0) → AreLeftSums height number (replicate {A = ℕ} n 0)
zero-sums n zero number none = tt
zero-sums n (suc height) number none = (
  λ at low. omega (arith, zero-at n (2 ^ height + at), none (2 * at)),
  zero-sums n height (pairs number) (λ at. omega (arith, none (2 * at), none (2 * at + 1))),
)

pub zeros-tree : (height n : ℕ) → n ≡ 2 ^ height → IsSumTree height (λ place. 0) (replicate {A = ℕ} n 0)
zeros-tree height n is = record {
  size = omega (arith, length-replicate {A = ℕ} n 0, is);
  sums = zero-sums n height (λ place. 0) (λ at. refl);
}

-- no number has a sum
pub zeros-sum : (count : ℕ) → sum_from (λ place. 0) 0 count ≡ 0
zeros-sum zero = refl
zeros-sum (suc count) = omega (arith, zeros-sum count)
