-- On the way up a tree.
use Rattle.std.proofs.Common.{◌≡◌, ℕ, zero, suc, ◌+◌, ◌*◌, ◌/◌, ◌%◌, ◌^◌, ◌<◌, ◌≤◌, cond, List, [], ◌++◌, length, take, drop, nat_eq, get_or, refl, ap, ◌∙◌, inl, inr, arith}
use Rattle.std.proofs.lemmas.Bool.{cases_eq, eq-eqb, ne_eqb}
use Rattle.std.proofs.lemmas.List.{append-nil, drop_all, take_all}
use Rattle.sum_tree.specs.Nodes.{AreLeftSums, grown, IsSumTree, pairs, sum_from}
use Rattle.sum_tree.specs.Private.Way.{IsGrowing, IsSumming, left_of}
use Rattle.sum_tree.proofs.Powers.{two_more}
use Rattle.sum_tree.proofs.Sums.{number-le, pairs-even, pairs-grown, pairs-odd, sum-le, sum-pairs}

power : (levels : ℕ) → 2 ^ suc levels ≡ 2 * 2 ^ levels
power levels = let next : suc levels ≡ levels + 1 = omega arith in ap (λ n. 2 ^ n) next ∙ two_more levels

-- ---- trees of equal numbers, and with equal nodes
pub same-numbers : (height : ℕ) (number other : ℕ → ℕ) (nodes : List ℕ) → ((at : ℕ) → number at ≡ other at) → AreLeftSums height number nodes → AreLeftSums height other nodes
same-numbers zero number other nodes same are = tt
same-numbers (suc height) number other nodes same are = (
  λ at low. are.0 at low ∙ same (2 * at),
  same-numbers height (pairs number) (pairs other) nodes (λ at. omega (arith, same (2 * at), same (2 * at + 1))) are.1,
)

pub same-nodes : (height : ℕ) (number : ℕ → ℕ) (nodes other : List ℕ) → ((j : ℕ) → j < 2 ^ height → get_or other j 0 ≡ get_or nodes j 0) → AreLeftSums height number nodes
    → AreLeftSums height number other
same-nodes zero number nodes other same are = tt
same-nodes (suc height) number nodes other same are = (
  λ at low. same (2 ^ height + at) (omega (arith, power height, low)) ∙ are.0 at low,
  same-nodes height (pairs number) nodes other (λ j low. same j (omega (arith, power height, low))) are.1,
)

-- ---- sums
pub starts-summing : (height : ℕ) (number : ℕ → ℕ) (nodes : List ℕ) (count : ℕ) → count < 2 ^ height → IsSumTree height number nodes
    → IsSumming number count 0 height nodes (length nodes + count)
starts-summing height number nodes count low tree = record {
  below = number;
  at = count;
  node_is = omega (arith, tree.size);
  within = low;
  above = tree.sums;
  sum = omega arith;
}

left-node : (nodes : List ℕ) (node : ℕ) → node % 2 ≡ 1 → left_of nodes node ≡ get_or nodes (node / 2) 0
left-node nodes node odd = rw (eq-eqb (node % 2) 1 odd) refl

no-left-node : (nodes : List ℕ) (node : ℕ) → (node % 2 ≡ 1 → ⊥) → left_of nodes node ≡ 0
no-left-node nodes node even = rw (ne_eqb (node % 2) 1 even) refl

-- one level up
pub keeps-summing : (number : ℕ → ℕ) (count total levels : ℕ) (nodes : List ℕ) (node left : ℕ) → left ≡ left_of nodes node → IsSumming number count total (suc levels) nodes node
    → IsSumming number count (total + left) levels nodes (node / 2)
keeps-summing number count total levels nodes node left is summing =
    let low = summing.within in
    record {
      below = pairs summing.below;
      at = summing.at / 2;
      node_is = omega (arith, power levels, summing.node_is);
      within = omega (arith, power levels, low);
      above = summing.above.1;
      sum = elim (cases_eq (node % 2) 1) as (λ _. (total + left) + sum_from (pairs summing.below) 0 (summing.at / 2) ≡ sum_from number 0 count) [
        | inl odd ↦
            (let up : node / 2 ≡ 2 ^ levels + summing.at / 2 = omega (arith, power levels, summing.node_is) in
            let read : get_or nodes (node / 2) 0 ≡ get_or nodes (2 ^ levels + summing.at / 2) 0 = ap (λ j. get_or nodes j 0) up in
            let here : get_or nodes (2 ^ levels + summing.at / 2) 0 ≡ summing.below (2 * (summing.at / 2)) = summing.above.0 (summing.at / 2) (omega (arith, power levels, low)) in
            let last = pairs-odd summing.below summing.at (omega (arith, power levels, summing.node_is, odd)) in
            omega (arith, summing.sum, last, here, read, left-node nodes node odd, is))
        | inr even ↦
            (let none = pairs-even summing.below summing.at (λ e. even (omega (arith, power levels, summing.node_is, e))) in
            omega (arith, summing.sum, none, no-left-node nodes node even, is))
      ];
    }

-- no sum on the way is more than that of all numbers
pub summed-le : (height : ℕ) (number : ℕ → ℕ) (count total levels : ℕ) (nodes : List ℕ) (node : ℕ) → count < 2 ^ height → IsSumming number count total levels nodes node
    → total ≤ sum_from number 0 (2 ^ height)
summed-le height number count total levels nodes node low summing = omega (arith, summing.sum, sum-le number count (2 ^ height) (omega (arith, low)))

-- at the root
pub ends-summing : (number : ℕ → ℕ) (count total levels : ℕ) (nodes : List ℕ) (node : ℕ) → levels ≡ 0 → IsSumming number count total levels nodes node → total ≡ sum_from number 0 count
ends-summing number count total zero nodes node last summing =
    let none : summing.at ≡ 0 = omega (arith, summing.within) in
    omega (arith, summing.sum, ap (sum_from summing.below 0) none)
ends-summing number count total (suc levels) nodes node last summing = absurd (omega (arith, last))

-- ---- a number that grew
pub starts-growing : (height : ℕ) (number : ℕ → ℕ) (nodes : List ℕ) (place amount : ℕ) → place < 2 ^ height → IsSumTree height number nodes
    → IsGrowing height number place amount height nodes (length nodes + place)
starts-growing height number nodes place amount low tree = record {
  below = number;
  at = place;
  node_is = omega (arith, tree.size);
  within = low;
  above = tree.sums;
  whole = refl;
  rest = λ after same are. are;
}

-- the node above has no more than all numbers
pub above-le : (height : ℕ) (number : ℕ → ℕ) (place amount levels : ℕ) (nodes : List ℕ) (node : ℕ) → IsGrowing height number place amount (suc levels) nodes node
    → get_or nodes (node / 2) 0 ≤ sum_from number 0 (2 ^ height)
above-le height number place amount levels nodes node growing =
    let low = growing.within in
    let up : node / 2 ≡ 2 ^ levels + growing.at / 2 = omega (arith, power levels, growing.node_is) in
    let read : get_or nodes (node / 2) 0 ≡ get_or nodes (2 ^ levels + growing.at / 2) 0 = ap (λ j. get_or nodes j 0) up in
    let here : get_or nodes (2 ^ levels + growing.at / 2) 0 ≡ growing.below (2 * (growing.at / 2)) = growing.above.0 (growing.at / 2) (omega (arith, power levels, low)) in
    let least = number-le growing.below (2 * (growing.at / 2)) (2 ^ suc levels) (omega (arith, low)) in
    omega (arith, read, here, least, growing.whole)

pub keeps-growing : (height : ℕ) (number : ℕ → ℕ) (place amount levels : ℕ) (nodes new : List ℕ) (node : ℕ)
    → ((j : ℕ) → get_or new j 0 ≡ get_or nodes j 0 + cond (nat_eq (2 * j) node) amount 0) → IsGrowing height number place amount (suc levels) nodes node
    → IsGrowing height number place amount levels new (node / 2)
keeps-growing height number place amount levels nodes new node each growing =
    let low = growing.within in
    let at = growing.at in
    let below = growing.below in
    let double = power levels in
    let node_is = growing.node_is in
    let kept : (j : ℕ) → (2 * j ≡ node → ⊥) → get_or new j 0 ≡ get_or nodes j 0 = λ j other.
    (let none : cond (nat_eq (2 * j) node) amount 0 ≡ 0 = rw (ne_eqb (2 * j) node other) refl in omega (arith, each j, none)) in
    record {
      below = pairs below;
      at = at / 2;
      node_is = omega (arith, double, node_is);
      within = omega (arith, double, low);
      above = same-nodes levels (pairs below) nodes new (λ j less. kept j (λ e. omega (arith, double, node_is, less, e))) growing.above.1;
      whole = omega (arith, sum-pairs below (2 ^ levels), ap (sum_from below 0) double, growing.whole);
      rest = λ after same are. growing.rest after (λ j from. same j (omega (arith, double, from)) ∙ kept j (λ e. omega (arith, double, node_is, low, from, e))) (
        λ k less. (let read : get_or after (2 ^ levels + k) 0 ≡ get_or new (2 ^ levels + k) 0 = same (2 ^ levels + k) (omega arith) in
            let old : get_or nodes (2 ^ levels + k) 0 ≡ below (2 * k) = growing.above.0 k less in
            elim (cases_eq (2 * k) at) as (λ _. get_or after (2 ^ levels + k) 0 ≡ grown below at amount (2 * k)) [
              | inl here ↦
                  (let added : cond (nat_eq (2 * (2 ^ levels + k)) node) amount 0 ≡ amount = rw (eq-eqb (2 * (2 ^ levels + k)) node (omega (arith, double, node_is, here))) refl in
                  let own : cond (nat_eq (2 * k) at) amount 0 ≡ amount = rw (eq-eqb (2 * k) at here) refl in
                  omega (arith, read, old, each (2 ^ levels + k), added, own))
              | inr other ↦
                  (let none : cond (nat_eq (2 * k) at) amount 0 ≡ 0 = rw (ne_eqb (2 * k) at other) refl in
                  omega (arith, read, old, kept (2 ^ levels + k) (λ e. other (omega (arith, double, node_is, e))), none))
            ]),
        same-numbers levels (grown (pairs below) (at / 2) amount) (pairs (grown below at amount)) after (pairs-grown below at amount) are,
      );
    }

-- at the root
pub has-grown : (height : ℕ) (number : ℕ → ℕ) (place amount levels : ℕ) (nodes : List ℕ) (node : ℕ) → levels ≡ 0 → IsGrowing height number place amount levels nodes node
    → AreLeftSums height (grown number place amount) nodes
has-grown height number place amount zero nodes node none growing = growing.rest nodes (λ j from. refl) tt
has-grown height number place amount (suc levels) nodes node none growing = absurd (omega (arith, none))

-- what is written through a slice of all items is what the list then has
pub written-back : (size : ℕ) (new old : List ℕ) → length new ≡ length old → size ≡ length old → take size (new ++ drop (length new) old) ≡ new
written-back size new old same all =
    let none : drop (length new) old ≡ [] = drop_all (length new) old (omega arith) in
    ap (λ (rest : List ℕ). take size (new ++ rest)) none ∙ ap (λ (x : List ℕ). take size x) (append-nil new) ∙ take_all size new (omega arith)
