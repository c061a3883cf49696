-- On the way up a tree, and down.
use Rattle.std.specs.Prelude.{◌≡◌, ℕ, zero, suc, ◌+◌, ◌-◌, ◌*◌, ◌/◌, ◌%◌, ◌^◌, ◌<◌, ◌≤◌, List, nat_eq, cond, slice_index}
use Rattle.sum_tree.specs.Nodes.{AreLeftSums, grown, pairs, sum_from}

-- what stands below the node to the left, where a node is the right one of two
abbrev pub left_of : List ℕ → (node : ℕ) → ℕ
left_of nodes node = cond (nat_eq (node % 2) 1) (slice_index nodes (node / 2)) 0

-- the sums of numbers, so many times two by two
abbrev pub paired : (times : ℕ) → (number : ℕ → ℕ) → (at : ℕ) → ℕ
paired zero number = number
paired (suc times) number = pairs (paired times number)

-- on the way up from behind the first numbers: what is summed, and what stands below the nodes to the left of a node, above which so many levels stand
pub record IsSumming (number : ℕ → ℕ) (count total levels : ℕ) (nodes : List ℕ) (node : ℕ) : Type 0 where
  pub below : ℕ → ℕ
  pub at : ℕ
  pub node_is : node ≡ 2 ^ levels + at
  pub within : at < 2 ^ levels
  pub above : AreLeftSums levels below nodes
  pub sum : total + sum_from below 0 at ≡ sum_from number 0 count

-- on the way up from a place whose number grew: the nodes above are still those of before; where they are made right without a change of the others, all are
pub record IsGrowing (height : ℕ) (number : ℕ → ℕ) (place amount levels : ℕ) (nodes : List ℕ) (node : ℕ) : Type 0 where
  pub below : ℕ → ℕ
  pub at : ℕ
  pub node_is : node ≡ 2 ^ levels + at
  pub within : at < 2 ^ levels
  pub above : AreLeftSums levels below nodes
  pub whole : sum_from below 0 (2 ^ levels) ≡ sum_from number 0 (2 ^ height)
  pub rest : (after : List ℕ) → ((j : ℕ) → 2 ^ levels ≤ j → slice_index after j ≡ slice_index nodes j) → AreLeftSums levels (grown below at amount) after
      → AreLeftSums height (grown number place amount) after

-- on the way down: what is left, and what stands below the nodes to the left of a node, below which so many levels stand; with the node itself it is too much,
-- but where the node is its level's last
pub record IsBeyond (number : ℕ → ℕ) (most left levels level node : ℕ) : Type 0 where
  pub sum : sum_from (paired levels number) 0 (node - 2 ^ level) + left ≡ most
  pub more : node + 1 < 2 * 2 ^ level → left < paired levels number (node - 2 ^ level)
