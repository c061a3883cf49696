-- The first place that passes a test.
use Rattle.std.proofs.Common.{◌≡◌, ℕ, zero, suc, ◌+◌, ◌<◌, ◌≤◌, Bool, true, false, cond, Some, None, refl, subst, arith, inl, inr}
use Rattle.std.specs.List.{find, range_with_len}
use Rattle.std.proofs.lemmas.Bool.{cases_eq}

-- what is found passes, and is one of those looked at
pub found_passes : (test : ℕ → Bool) (n from found : ℕ) → find test (range_with_len from n) ≡ Some found → (test found ≡ true) × (found < from + n)
found_passes test zero from found is = absurd (cc)
found_passes test (suc n) from found is = by_test (test from) refl is (found_passes test n (from + 1) found)
  where
    by_test : (here : Bool) → test from ≡ here → cond here (Some from) (find test (range_with_len (from + 1) n)) ≡ Some found
        → (find test (range_with_len (from + 1) n) ≡ Some found → (test found ≡ true) × (found < (from + 1) + n)) → (test found ≡ true)
        × (found < from + suc n)
    by_test true passes is later = (let same : from ≡ found = cc in (subst (λ (k : ℕ). test k ≡ true) same passes, omega arith))
    by_test false fails is later = (let behind : (test found ≡ true) × (found < (from + 1) + n) = later is in (behind.0, omega (arith, behind.1)))

-- none before what is found passes
pub found_least : (test : ℕ → Bool) (n from found : ℕ) → find test (range_with_len from n) ≡ Some found → (k : ℕ) → from ≤ k → k < found → test k ≡ false
found_least test zero from found is k low high = absurd (cc)
found_least test (suc n) from found is k low high = by_test (test from) refl is (λ later up. found_least test n (from + 1) found later k up high)
  where
    by_test : (here : Bool) → test from ≡ here → cond here (Some from) (find test (range_with_len (from + 1) n)) ≡ Some found
        → (find test (range_with_len (from + 1) n) ≡ Some found → from + 1 ≤ k → test k ≡ false) → test k ≡ false
    by_test true passes is later = (let same : from ≡ found = cc in absurd (omega (arith, same, low, high)))
    by_test false fails is later = elim (cases_eq from k) [
      | inl same ↦ subst (λ (j : ℕ). test j ≡ false) same fails
      | inr apart ↦ later is (omega (arith, apart, low))
    ]

-- where nothing is found none passes
pub none_passes : (test : ℕ → Bool) (n from : ℕ) → find test (range_with_len from n) ≡ None → (k : ℕ) → from ≤ k → k < from + n → test k ≡ false
none_passes test zero from is k low high = absurd (omega arith)
none_passes test (suc n) from is k low high = by_test (test from) refl is (λ later up. none_passes test n (from + 1) later k up (omega (arith, high)))
  where
    by_test : (here : Bool) → test from ≡ here → cond here (Some from) (find test (range_with_len (from + 1) n)) ≡ None
        → (find test (range_with_len (from + 1) n) ≡ None → from + 1 ≤ k → test k ≡ false) → test k ≡ false
    by_test true passes is later = absurd (cc)
    by_test false fails is later = elim (cases_eq from k) [
      | inl same ↦ subst (λ (j : ℕ). test j ≡ false) same fails
      | inr apart ↦ later is (omega (arith, apart, low))
    ]
