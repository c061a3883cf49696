-- Prices of steps in rising order.
use Rattle.std.proofs.Common.{◌≡◌, ℕ, zero, suc, ◌+◌, ◌-◌, ◌<◌, ◌≤◌, List, [], ◌∷◌, length, take, map, get_or, All, eqb, ap, subst, ◌∙◌, inl, inr, arith}
use Rattle.std.specs.List.{Contains, dedup, dedup_from}
use Rattle.std.specs.List.Sorted.{IsNonDecreasing, IsPermutation, IsStrictlyIncreasing}
use Rattle.std.proofs.lemmas.Bool.{cases_Bool}
use Rattle.std.proofs.lemmas.List.{get_or-map, get_or_default, length-map, take_all}
use Rattle.std.proofs.lemmas.List.Kept.{Contains-dedup_nat}
use Rattle.std.proofs.lemmas.List.Sorted.{Contains-permutation, length_permutation, sum_by-IsPermutation}
use Rattle.cost_sweep.specs.declared.step.CostStep.{CostStep}
use Rattle.cost_sweep.specs.Steps.{AreSmall}

from_of : CostStep → ℕ
from_of step = step.from

pub record ArePrices (steps : List CostStep) (prices : List ℕ) : Type 0 where
  pub all : All (λ step. Contains prices step.from) steps
  pub count : length prices ≤ length steps

pub prices-of : (steps : List CostStep) (n : ℕ) (prices sorted : List ℕ) → length steps ≤ n → prices ≡ map (λ step. step.from) (take n steps) → IsPermutation prices sorted → ArePrices steps sorted
prices-of steps n prices sorted all is moved =
    let whole : prices ≡ map (λ (s : CostStep). s.from) steps = is ∙ ap (map (λ (s : CostStep). s.from)) (take_all n steps all) in
    let size : length prices ≡ length steps = ap (λ (x : List ℕ). length x) whole ∙ length-map steps (λ (s : CostStep). s.from) in
    record {
      all = λ k d within.
          (let from = (get_or steps k d).from in
          let at : get_or (map (λ (s : CostStep). s.from) steps) k from ≡ from = get_or-map (λ (s : CostStep). s.from) steps k d from within in
          let here : get_or prices k from ≡ from = ap (λ (x : List ℕ). get_or x k from) whole ∙ at in
          Contains-permutation prices sorted from moved (k, omega arith, here));
      count = omega (arith, length_permutation prices sorted moved, size);
    }

length-dedup_from : (k : ℕ) (prices : List ℕ) → length (dedup_from eqb k prices) ≤ length prices + 1
length-dedup_from k [] = omega arith
length-dedup_from k (price ∷ prices) = elim (cases_Bool (eqb price k)) [
  | inl same ↦ rw same (omega (arith, length-dedup_from k prices))
  | inr other ↦ rw other (omega (arith, length-dedup_from price prices))
]

length-dedup : (prices : List ℕ) → length (dedup eqb prices) ≤ length prices
length-dedup [] = omega arith
length-dedup (price ∷ prices) = omega (arith, length-dedup_from price prices)

-- each price once
pub once-each : (steps : List CostStep) (prices once : List ℕ) → once ≡ dedup eqb prices → ArePrices steps prices → ArePrices steps once
once-each steps prices once is are = record {
  all = λ k d within. rw is (Contains-dedup_nat prices (get_or steps k d).from (are.all k d within));
  count = rw is (omega (arith, length-dedup prices, are.count));
}

rises-by : (prices : List ℕ) → IsStrictlyIncreasing prices → (k more : ℕ) → k + more < length prices → get_or prices k 0 ≤ get_or prices (k + more) 0
rises-by prices up k zero low =
    let same : k ≡ k + 0 = omega arith in
    subst (λ n. get_or prices k 0 ≤ get_or prices n 0) same (omega arith)
rises-by prices up k (suc more) low =
    let before : get_or prices k 0 ≤ get_or prices (k + more) 0 = rises-by prices up k more (omega arith) in
    let next : get_or prices (k + more) 0 < get_or prices ((k + more) + 1) 0 = up (k + more) (omega arith) in
    let same : (k + more) + 1 ≡ k + suc more = omega arith in
    subst (λ n. get_or prices k 0 ≤ get_or prices n 0) same (omega arith)

-- prices of which each is less than the next don't fall
pub in-order : (prices : List ℕ) → IsStrictlyIncreasing prices → IsNonDecreasing prices
in-order prices up k n d le low =
    let whole : k + (n - k) ≡ n = omega arith in
    let rise : get_or prices k 0 ≤ get_or prices n 0 = subst (λ m. get_or prices k 0 ≤ get_or prices m 0) whole (rises-by prices up k (n - k) (omega arith)) in
    let first = get_or_default prices k d 0 (omega arith) in
    let last = get_or_default prices n d 0 low in
    omega arith

pub small-moved : (steps moved : List CostStep) → IsPermutation steps moved → AreSmall steps → AreSmall moved
small-moved steps moved by small = record {
  count = omega (arith, small.count, length_permutation steps moved by);
  rises = omega (arith, small.rises, sum_by-IsPermutation (λ (s : CostStep). s.rise) steps moved by);
  packets = omega (arith, small.packets, sum_by-IsPermutation (λ (s : CostStep). s.packets) steps moved by);
  fewer = omega (arith, small.fewer, sum_by-IsPermutation (λ (s : CostStep). s.fewer) steps moved by);
}
