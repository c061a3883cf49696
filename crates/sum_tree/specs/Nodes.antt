-- A tree of sums as the list of its nodes.
use Rattle.std.specs.Prelude.{◌≡◌, ℕ, zero, suc, ◌+◌, ◌*◌, ◌^◌, ◌<◌, List, length, cond, nat_eq, slice_index}

-- the sum of so many numbers from a place on
abbrev pub sum_from : (number : ℕ → ℕ) → (first count : ℕ) → ℕ
sum_from number first zero = 0
sum_from number first (suc count) = sum_from number first count + number (first + count)

-- numbers of which the one at a place grew
abbrev pub grown : (number : ℕ → ℕ) → (place amount : ℕ) → (at : ℕ) → ℕ
grown number place amount at = number at + cond (nat_eq at place) amount 0

-- the sums of numbers two by two
abbrev pub pairs : (number : ℕ → ℕ) → (at : ℕ) → ℕ
pairs number at = number (2 * at) + number (2 * at + 1)

-- each node of these levels has the sum of what stands below it on the left: on the lowest level, that is the first one of two numbers, and on the levels
-- above it the same of their sums two by two
abbrev pub AreLeftSums : (height : ℕ) → (number : ℕ → ℕ) → List ℕ → Type 0
AreLeftSums zero number nodes = Unit {0}
AreLeftSums (suc height) number nodes = ((at : ℕ) → at < 2 ^ height → slice_index nodes (2 ^ height + at) ≡ number (2 * at)) × AreLeftSums height (pairs number) nodes

-- a tree of the numbers at 2 to the power of the height places: node 1 is its root, and below node n are the nodes 2n and 2n + 1
pub record IsSumTree (height : ℕ) (number : ℕ → ℕ) (nodes : List ℕ) : Type 0 where
  pub size : length nodes ≡ 2 ^ height
  pub sums : AreLeftSums height number nodes
