-- The first number of a range that passes a test.
use Rattle.std.proofs.Common.{◌≡◌, ℕ, zero, suc, ◌+◌, ◌<◌, ◌≤◌, Bool, true, false, Some, None, refl, sym, ap, subst, inl, inr, arith}
use Rattle.std.specs.List.{find, range_with_len}
use Rattle.std.proofs.lemmas.Bool.{cases_eq}

pub find_range : (test : ℕ → Bool) (n from found : ℕ) → from ≤ found → found < from + n → test found ≡ true
    → ((at : ℕ) → from ≤ at → at < found → test at ≡ false) → find test (range_with_len from n) ≡ Some found
find_range test zero from found begun upto is none = absurd (omega arith)
find_range test (suc n) from found begun upto is none = elim (cases_eq from found) [
  | inl same ↦ (let here : test from ≡ true = subst (λ (k : ℕ). test k ≡ true) (sym same) is in rw here (ap Some same))
  | inr apart ↦ (let here : test from ≡ false = none from (omega arith) (omega arith) in rw here
      (find_range test n (from + 1) found (omega arith) (omega arith) is (λ at b u. none at (omega arith) u)))
]

pub find_none : (test : ℕ → Bool) (n from : ℕ) → ((at : ℕ) → from ≤ at → at < from + n → test at ≡ false) → find test (range_with_len from n) ≡ None
find_none test zero from none = refl
find_none test (suc n) from none =
    let here : test from ≡ false = none from (omega arith) (omega arith) in
    rw here (find_none test n (from + 1) (λ at b u. none at (omega arith) (omega arith)))
