-- Sums of numbers at places, as the nodes of a tree: the places are the last nodes, and below node n are the nodes 2n and 2n + 1.
use Rattle.std.specs.Prelude.{◌≡◌, ℕ, ◌+◌, ◌-◌, ◌*◌, ◌/◌, ◌%◌, ◌^◌, ◌<◌, ◌≤◌, List, length, nat_eq, cond, slice_index}
use Rattle.certificate_checker.specs.declared.sums.PlaceSums.{PlaceSums}

-- the number at a place
abbrev pub number_at : PlaceSums → (place : ℕ) → ℕ
number_at sums place = slice_index sums.nodes.items (sums.count + place)

-- the sum at a node is that of the two below it
abbrev pub IsPair : List ℕ → (j : ℕ) → Type 0
IsPair nodes j = slice_index nodes j ≡ slice_index nodes (2 * j) + slice_index nodes (2 * j + 1)

-- each node before the places but the first is the sum of the two below it; the numbers at places have 64 bits
pub record AreSums (sums : PlaceSums) : Type 0 where
  pub few : sums.count < 2 ^ 63
  pub size : length sums.nodes.items ≡ 2 * sums.count
  pub pairs : (j : ℕ) → 1 ≤ j → j < sums.count → IsPair sums.nodes.items j
  pub numbers : (j : ℕ) → sums.count ≤ j → slice_index sums.nodes.items j < 2 ^ 64

-- the number at a node that is the right one of two, else 0
abbrev pub odd_at : List ℕ → (low : ℕ) → ℕ
odd_at nodes low = cond (nat_eq (low % 2) 1) (slice_index nodes low) 0

-- the number before a node that is the right one of two, else 0
abbrev pub odd_before : List ℕ → (high : ℕ) → ℕ
odd_before nodes high = cond (nat_eq (high % 2) 1) (slice_index nodes (high - 1)) 0

-- a number is put at a place, and the sums above it are right up to this node
pub record IsRising (count place number : ℕ) (before nodes : List ℕ) (at : ℕ) : Type 0 where
  pub size : length nodes ≡ 2 * count
  pub some : 1 ≤ at
  pub within : at < 2 * count
  pub pairs : (j : ℕ) → 1 ≤ j → j < count → (j ≡ at / 2 → ⊥) → IsPair nodes j
  pub own : slice_index nodes (count + place) ≡ number
  pub others : (j : ℕ) → count ≤ j → (j ≡ count + place → ⊥) → slice_index nodes j ≡ slice_index before j
