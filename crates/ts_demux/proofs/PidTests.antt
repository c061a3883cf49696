-- Whether two PIDs are the same.
use Rattle.std.proofs.Common.{◌≡◌, ◌==◌, ℕ, Bool, true, false, refl, arith}
use Rattle.std.proofs.lemmas.Bool.Decides.{nat_tests}

pub no_test : (pid other : ℕ) → (pid ≡ other → ⊥) → (pid == other) ≡ false
no_test pid other apart = by_test (pid == other) refl
  where
    by_test : (is : Bool) → (pid == other) ≡ is → is ≡ false
    by_test true is = let same : pid ≡ other = grind (arith, nat_tests) in absurd (apart same)
    by_test false is = refl

pub yes_test : (pid other : ℕ) → pid ≡ other → (pid == other) ≡ true
yes_test pid other same = grind (arith, nat_tests)
