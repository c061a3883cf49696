-- The first place that passes a test isn't before those looked at.
use Rattle.std.proofs.Common.{◌≡◌, ℕ, zero, suc, ◌+◌, ◌≤◌, Bool, true, false, cond, Some, arith}
use Rattle.std.specs.List.{find, range_with_len}

pub found_from : (test : ℕ → Bool) (n from found : ℕ) → find test (range_with_len from n) ≡ Some found → from ≤ found
found_from test zero from found is = absurd (cc)
found_from test (suc n) from found is = by_test (test from) is (found_from test n (from + 1) found)
  where
    by_test : (here : Bool) → cond here (Some from) (find test (range_with_len (from + 1) n)) ≡ Some found →
        (find test (range_with_len (from + 1) n) ≡ Some found → from + 1 ≤ found) → from ≤ found
    by_test true is later = let same : from ≡ found = cc in omega (arith, same)
    by_test false is later = omega (arith, later is)
