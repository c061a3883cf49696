-- Sums over numbers from one on.
use Rattle.std.specs.Prelude.{ℕ}
use Rattle.std.specs.List.{sum_by, range_with_len}

-- the sum of f over so many numbers from a on
unfoldable pub sum_from : (ℕ → ℕ) → ℕ → ℕ → ℕ
sum_from f a n = sum_by f (range_with_len a n)
