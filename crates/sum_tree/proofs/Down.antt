-- On the way down a tree, to the place at which the first numbers come to more than a sum.
use Rattle.std.proofs.Common.{◌≡◌, ℕ, zero, suc, ◌+◌, ◌-◌, ◌*◌, ◌^◌, ◌<◌, ◌≤◌, List, get_or, ap, subst, sym, ◌∙◌, arith}
use Rattle.sum_tree.specs.Nodes.{AreLeftSums, IsSumTree, sum_from}
use Rattle.sum_tree.specs.Private.Way.{IsBeyond, paired}
use Rattle.sum_tree.proofs.Powers.{two_more}
use Rattle.sum_tree.proofs.Sums.{sum-more, sum-pairs}

-- the levels above some others
above : (levels height : ℕ) (number : ℕ → ℕ) (nodes : List ℕ) (all : ℕ) → all ≡ height + levels → AreLeftSums all number nodes → AreLeftSums height (paired levels number) nodes
above zero height number nodes all is are = (let same : all ≡ height = omega (arith, is) in subst (λ n. AreLeftSums n number nodes) same are)
above (suc levels) height number nodes all is are = (above levels (suc height) number nodes all (omega (arith, is)) are).1

module _ (height : ℕ) (number : ℕ → ℕ) (nodes : List ℕ) (tree : IsSumTree height number nodes) (most left levels level node : ℕ) (is : height ≡ suc level + levels)
    (from : 2 ^ level ≤ node) (within : node < 2 * 2 ^ level) (beyond : IsBeyond number most left (suc levels) level node) where
  below : ℕ → ℕ
  below = paired levels number

  at : ℕ
  at = node - 2 ^ level

  read : get_or nodes node 0 ≡ paired levels number (2 * (node - 2 ^ level))
  read =
      let whole : 2 ^ level + (node - 2 ^ level) ≡ node = omega (arith, from) in
      ap (λ j. get_or nodes j 0) (sym whole) ∙ (above levels (suc level) number nodes height is tree.sums).0 (node - 2 ^ level) (omega (arith, from, within))

  -- to the left one of the two below a node
  pub goes-left : (next : ℕ) → next ≡ level + 1 → left < get_or nodes node 0 → IsBeyond number most left levels next (node * 2)
  goes-left next next_is less =
      let double : 2 ^ next ≡ 2 * 2 ^ level = ap (λ n. 2 ^ n) next_is ∙ two_more level in
      let size : node * 2 - 2 ^ next ≡ 2 * (node - 2 ^ level) = omega (arith, double, from) in
      record {
        sum = omega (arith, ap (sum_from (paired levels number) 0) size, sum-pairs (paired levels number) (node - 2 ^ level), beyond.sum);
        more = λ low. omega (arith, ap (paired levels number) size, read, less);
      }

  -- to the right one
  pub goes-right : (next rest : ℕ) → next ≡ level + 1 → rest + get_or nodes node 0 ≡ left → IsBeyond number most rest levels next (node * 2 + 1)
  goes-right next rest next_is rest_is =
      let double : 2 ^ next ≡ 2 * 2 ^ level = ap (λ n. 2 ^ n) next_is ∙ two_more level in
      let size : node * 2 + 1 - 2 ^ next ≡ 2 * (node - 2 ^ level) + 1 = omega (arith, double, from) in
      record {
        sum = omega (
          arith,
          ap (sum_from (paired levels number) 0) size,
          sum-more (paired levels number) (2 * (node - 2 ^ level)),
          sum-pairs (paired levels number) (node - 2 ^ level),
          beyond.sum,
          read,
          rest_is,
        );
        more = λ low. omega (arith, ap (paired levels number) size, read, rest_is, beyond.more (omega (arith, double, low)));
      }

-- at the places
pub ends-within : (number : ℕ → ℕ) (most left levels level node : ℕ) → levels ≡ 0 → IsBeyond number most left levels level node → sum_from number 0 (node - 2 ^ level) ≤ most
ends-within number most left zero level node none beyond = omega (arith, beyond.sum)
ends-within number most left (suc levels) level node none beyond = absurd (omega (arith, none))

pub ends-more : (number : ℕ → ℕ) (most left levels level node : ℕ) → levels ≡ 0 → IsBeyond number most left levels level node → node + 1 < 2 * 2 ^ level
    → most < sum_from number 0 ((node - 2 ^ level) + 1)
ends-more number most left zero level node none beyond low = omega (arith, beyond.sum, beyond.more low, sum-more number (node - 2 ^ level))
ends-more number most left (suc levels) level node none beyond low = absurd (omega (arith, none))
