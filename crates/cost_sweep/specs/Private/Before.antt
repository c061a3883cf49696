-- The place before prices that are no less than one.
use Rattle.std.specs.Prelude.{ℕ, ◌<◌, ◌≤◌, List, length, slice_index}

-- the prices before this place are less than one, and the others not
pub record IsPlaceBefore (prices : List ℕ) (price place : ℕ) : Type 0 where
  pub within : place ≤ length prices
  pub less : (k : ℕ) → k < place → slice_index prices k < price
  pub not_less : (k : ℕ) → place ≤ k → k < length prices → price ≤ slice_index prices k
