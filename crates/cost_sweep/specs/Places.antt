-- Places among prices in rising order.
use Rattle.std.specs.Prelude.{ℕ, ◌<◌, ◌≤◌, List, length, slice_index}

-- the prices before this place are at most one, and the others more
pub record IsPlaceBehind (prices : List ℕ) (price place : ℕ) : Type 0 where
  pub within : place ≤ length prices
  pub most : (k : ℕ) → k < place → slice_index prices k ≤ price
  pub more : (k : ℕ) → place ≤ k → k < length prices → price < slice_index prices k
