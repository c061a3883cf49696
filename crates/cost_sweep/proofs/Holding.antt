-- Trees that have the amounts of steps.
use Rattle.std.proofs.Common.{◌≡◌, ℕ, ◌+◌, ◌^◌, ◌<◌, ◌≤◌, List, [], length, take, get_or, cond, nat_lt, nat_le, sum_by, refl, sym, ap, ◌∙◌, inl, inr, arith}
use Rattle.std.specs.List.{Contains}
use Rattle.std.proofs.lemmas.Bool.{cases_lt, lt-ltb, le-ltb, le-leb, lt-leb}
use Rattle.std.proofs.lemmas.List.{get_or_default}
use Rattle.std.proofs.lemmas.List.Sums.{sum_by_more}
use Rattle.sum_tree.specs.declared.tree.SumTree.{SumTree}
use Rattle.sum_tree.specs.Nodes.{grown, IsSumTree, sum_from}
use Rattle.sum_tree.proofs.Sums.{sum-grown}
use Rattle.sum_tree.proofs.Zeros.{zeros-sum}
use Rattle.cost_sweep.specs.declared.step.CostStep.{CostStep}
use Rattle.cost_sweep.specs.Places.{IsPlaceBehind}
use Rattle.cost_sweep.specs.Private.Before.{IsPlaceBefore}
use Rattle.cost_sweep.specs.Sweep.{Holds, counted}

-- what counts from a price on stands before the place behind another price exactly where it counts at that price
module _ (prices : List ℕ) (from place price k amount : ℕ) (before : IsPlaceBefore prices from place) (behind : IsPlaceBehind prices price k) where
  none : k ≤ place → Contains prices from → price < from
  none most (i, within, is) =
      let own : get_or prices i 0 ≡ from = get_or_default prices i 0 from within ∙ is in
      elim (cases_lt i place) as (λ _. price < from) [
        | inl less ↦ absurd (let low : get_or prices i 0 < from = before.less i less in omega arith)
        | inr at ↦ (let high : price < get_or prices i 0 = behind.more i (omega arith) within in omega arith)
      ]

  pub counts-before : Contains prices from → cond (nat_lt place k) amount 0 ≡ cond (nat_le from price) amount 0
  counts-before has = elim (cases_lt place k) as (λ _. cond (nat_lt place k) amount 0 ≡ cond (nat_le from price) amount 0) [
    | inl less ↦
        (let at : get_or prices place 0 ≤ price = behind.most place less in
        let size = behind.within in
        let own : from ≤ get_or prices place 0 = before.not_less place (omega arith) (omega arith) in
        rw (lt-ltb place k less, le-leb from price (omega arith)) refl)
    | inr most ↦ rw (le-ltb place k most, lt-leb from price (none most has)) refl
  ]

-- an empty tree
pub holds-none : (prices : List ℕ) (amount : CostStep → ℕ) (tree : SumTree) (height : ℕ) → tree.height ≡ height → height ≤ 40 → length prices < 2 ^ height
    → IsSumTree tree.height (λ place. 0) tree.nodes.items → Holds prices amount [] tree
holds-none prices amount tree height same few room is =
    let power : 2 ^ tree.height ≡ 2 ^ height = ap (λ n. 2 ^ n) same in
    record {
      height = omega arith;
      room = omega (arith, power);
      number = λ place. 0;
      is_tree = is;
      total = zeros-sum (2 ^ tree.height);
      sums = λ price k at. zeros-sum k;
    }

-- one step more
pub holds-more : (prices : List ℕ) (amount : CostStep → ℕ) (steps : List CostStep) (i : ℕ) (d : CostStep) (old new : SumTree) (place n : ℕ) → i < length steps
    → n ≡ amount (get_or steps i d) → IsPlaceBefore prices (get_or steps i d).from place → Contains prices (get_or steps i d).from → Holds prices amount (take i steps) old
    → new.height ≡ old.height
    → ((number : ℕ → ℕ) → IsSumTree old.height number old.nodes.items → IsSumTree new.height (grown number place n) new.nodes.items)
    → Holds prices amount (take (i + 1) steps) new
holds-more prices amount steps i d old new place n within own before has holds height tree =
    let step = get_or steps i d in
    let number = holds.number in
    let power : 2 ^ new.height ≡ 2 ^ old.height = ap (λ m. 2 ^ m) height in
    let total : sum_by amount (take (i + 1) steps) ≡ sum_by amount (take i steps) + n = sum_by_more amount steps i d within ∙ ap (λ m. sum_by amount (take i steps) + m) (sym own) in
    record {
      height = omega (arith, holds.height);
      room = omega (arith, power, holds.room);
      number = grown number place n;
      is_tree = tree number holds.is_tree;
      total = (let all : cond (nat_lt place (2 ^ new.height)) n 0 ≡ n = rw (lt-ltb place (2 ^ new.height) (omega (arith, power, holds.room, before.within))) refl in
          omega (arith, sum-grown number place n (2 ^ new.height), all, ap (sum_from number 0) power, holds.total, total));
      sums = λ price k at.
          (let here : cond (nat_lt place k) n 0 ≡ cond (nat_le step.from price) n 0 = counts-before prices step.from place price k n before at has in
          let counts : cond (nat_le step.from price) n 0 ≡ counted amount price step = ap (λ m. cond (nat_le step.from price) m 0) own in
          let so_far : sum_from number 0 k ≡ sum_by (counted amount price) (take i steps) = holds.sums price k at in
          let more : sum_by (counted amount price) (take (i + 1) steps) ≡ sum_by (counted amount price) (take i steps) + counted amount price step =
          sum_by_more (counted amount price) steps i d within in
          omega (arith, sum-grown number place n k));
    }
