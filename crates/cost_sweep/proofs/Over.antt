-- The least price at which the packets fewer are more than so many.
use Rattle.std.proofs.Common.{◌≡◌, ℕ, zero, suc, ◌+◌, ◌^◌, ◌<◌, ◌≤◌, List, length, get_or, Option, Some, None, MatchOption, subst, inl, inr, arith}
use Rattle.std.specs.List.Sorted.{IsNonDecreasing}
use Rattle.std.proofs.lemmas.Bool.{cases_lt}
use Rattle.sum_tree.specs.Nodes.{sum_from}
use Rattle.sum_tree.proofs.Sums.{sum-le}
use Rattle.cost_sweep.specs.declared.sweep.CostSweep.{CostSweep}
use Rattle.cost_sweep.specs.Places.{IsPlaceBehind}
use Rattle.cost_sweep.specs.Sweep.{fewer_at, IsFirstOver, IsSweep}

-- ---- each price has its place
-- the place of a price among the first n
record IsPlaceAmong (prices : List ℕ) (price n place : ℕ) : Type 0 where
  within : place ≤ n
  most : (k : ℕ) → k < place → get_or prices k 0 ≤ price
  more : (k : ℕ) → place ≤ k → k < n → price < get_or prices k 0

place-among : (prices : List ℕ) (price n : ℕ) → IsNonDecreasing prices → n ≤ length prices → (place : ℕ) × IsPlaceAmong prices price n place
place-among prices price zero rise within = (0, record { within = omega arith; most = λ k low. absurd (omega arith); more = λ k from low. absurd (omega arith) })
place-among prices price (suc n) rise within =
    let so_far = place-among prices price n rise (omega arith) in
    let is = so_far.1 in
    elim (cases_lt price (get_or prices n 0)) as (λ _. (place : ℕ) × IsPlaceAmong prices price (suc n) place) [
      | inl less ↦ (
        so_far.0,
        record {
          within = omega (arith, is.within);
          most = is.most;
          more = λ k from low. elim (cases_lt k n) as (λ _. price < get_or prices k 0) [
            | inl before ↦ is.more k from before
            | inr last ↦ (let same : n ≡ k = omega arith in subst (λ i. price < get_or prices i 0) same less)
          ];
        },
      )
      | inr upto ↦ (
        suc n,
        record {
          within = omega arith;
          most = λ k low. (let order : get_or prices k 0 ≤ get_or prices n 0 = rise k n 0 (omega arith) (omega arith) in omega arith);
          more = λ k from low. absurd (omega arith);
        },
      )
    ]

place-of : (prices : List ℕ) (price : ℕ) → IsNonDecreasing prices → (place : ℕ) × IsPlaceBehind prices price place
place-of prices price rise =
    let found = place-among prices price (length prices) rise (omega arith) in
    (found.0, record { within = found.1.within; most = found.1.most; more = found.1.more })

-- ---- the price at which the first numbers are too many
module _ (sweep : CostSweep) (is : IsSweep sweep) (most place : ℕ) (within : sum_from is.fewer.number 0 place ≤ most)
    (more : place + 1 < 2 ^ sweep.fewer.height → most < sum_from is.fewer.number 0 (place + 1)) where
  abbrev prices : List ℕ
  prices = sweep.prices.now

  upto : (price at : ℕ) → IsPlaceBehind prices price at → at ≤ place → fewer_at sweep price ≤ most
  upto price at behind low =
      let sum = is.fewer.sums price at behind in
      let le = sum-le is.fewer.number at place low in
      omega (arith, sum, le, within)

  never-over : length prices ≤ place → (price : ℕ) → fewer_at sweep price ≤ most
  never-over all price =
      let at = place-of prices price is.sorted.rise in
      upto price at.0 at.1 (omega (arith, at.1.within))

  first-over : (price : ℕ) → place < length prices → price ≡ get_or prices place 0 → IsFirstOver sweep most price
  first-over price low own = record {
    over = (let at = place-of prices price is.sorted.rise in
        let behind : place < at.0 = elim (cases_lt place at.0) as (λ _. place < at.0) [
          | inl less ↦ less
          | inr upto ↦ absurd (let above : price < get_or prices place 0 = at.1.more place upto low in omega arith)
        ] in
        let sum = is.fewer.sums price at.0 at.1 in
        let le = sum-le is.fewer.number (place + 1) at.0 (omega arith) in
        omega (arith, sum, le, more (omega (arith, is.fewer.room))));
    before = λ other less. (let at = place-of prices other is.sorted.rise in
        elim (cases_lt place at.0) as (λ _. fewer_at sweep other ≤ most) [
          | inl behind ↦ absurd (let below : get_or prices place 0 ≤ other = at.1.most place behind in omega arith)
          | inr low_at ↦ upto other at.0 at.1 low_at
        ]);
  }

  pub over-of : (found : Option ℕ) → MatchOption found (length prices ≤ place) (λ price. (place < length prices) × (price ≡ get_or prices place 0))
      → MatchOption found ((price : ℕ) → fewer_at sweep price ≤ most) (IsFirstOver sweep most)
  over-of None all = never-over all
  over-of (Some price) (low, own) = first-over price low own
