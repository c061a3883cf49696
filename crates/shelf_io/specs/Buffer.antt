-- What a call that reads does to a buffer.
use Rattle.std.specs.Prelude.{◌≡◌, ℕ, ◌<◌, ◌≤◌, List, ◌++◌, length, take, drop}

-- the first n of some bytes went to the front of a buffer, whose rest stays; none only into an empty
-- buffer, or where there are no bytes
pub record CopiesFront (bytes old new : List ℕ) (n : ℕ) : Type 0 where
  pub front : new ≡ take n bytes ++ drop n old
  pub within : n ≤ length bytes
  pub progress : 0 < length old → 0 < length bytes → 0 < n
