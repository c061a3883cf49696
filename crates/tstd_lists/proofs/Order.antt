-- Orders of lists of numbers, from each element and the next.
use Rattle.std.proofs.Common.{◌≡◌, ℕ, ◌+◌, ◌<◌, ◌≤◌, List, length, map, arith}
use Rattle.std.proofs.lemmas.List.{get_or-map, length-map}
use Rattle.std.proofs.lemmas.List.Sorted.{IsNonDecreasingBy-from_all_adjacent}
use Rattle.std.specs.List.{AllAdjacentBelow}
use Rattle.std.specs.List.Sorted.{IsStrictlyIncreasing, IsNonDecreasing}

pub rises : {X : Type 0} (n : X → ℕ) (xs : List X) (d : X) (high : ℕ) → AllAdjacentBelow (λ x y. n x < n y) xs high → length xs ≤ high → IsStrictlyIncreasing (map n xs)
rises n xs d high adjacent all = λ k within.
    let long : length (map n xs) ≡ length xs = length-map xs n in
    omega (
      arith,
      get_or-map n xs k d 0 (omega arith),
      get_or-map n xs (k + 1) d 0 (omega arith),
      adjacent k d (omega arith),
    )

pub keeps_order : {X : Type 0} (n : X → ℕ) (xs : List X) (e : X) (high : ℕ) → AllAdjacentBelow (λ x y. n x ≤ n y) xs high → length xs ≤ high → IsNonDecreasing (map n xs)
keeps_order n xs e high adjacent all = λ i j d le within.
    let long : length (map n xs) ≡ length xs = length-map xs n in
    omega (
      arith,
      get_or-map n xs i e d (omega arith),
      get_or-map n xs j e d (omega arith),
      IsNonDecreasingBy-from_all_adjacent n xs (λ k d' below. adjacent k d' (omega arith)) i j e le (omega arith),
    )
