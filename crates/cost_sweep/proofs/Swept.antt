-- A sweep that goes on.
use Rattle.std.proofs.Common.{◌≡◌, ℕ, ◌+◌, ◌*◌, ◌^◌, ◌<◌, ◌≤◌, length, take, drop, get_or, sum_by, ap, subst, ◌∙◌, inl, inr, mul-le-mul, arith}
use Rattle.std.specs.List.{Contains}
use Rattle.std.proofs.lemmas.Bool.{cases_lt}
use Rattle.std.proofs.lemmas.List.{get_or_default}
use Rattle.std.proofs.lemmas.List.Sums.{sum_by_more, sum_by_more_le, sum_by-drop_more, sum_by-take-le}
use Rattle.sum_tree.specs.declared.tree.SumTree.{SumTree}
use Rattle.sum_tree.specs.Nodes.{grown, IsSumTree, sum_from}
use Rattle.cost_sweep.specs.declared.step.CostStep.{CostStep}
use Rattle.cost_sweep.specs.declared.sweep.CostSweep.{CostSweep}
use Rattle.cost_sweep.specs.Places.{IsPlaceBehind}
use Rattle.cost_sweep.specs.Private.Before.{IsPlaceBefore}
use Rattle.cost_sweep.specs.Steps.{paid_by, spared_by}
use Rattle.cost_sweep.specs.Sweep.{HasReached, Holds, IsSweep, WentOn, counted}
use Rattle.cost_sweep.proofs.Holding.{holds-more}
use Rattle.cost_sweep.proofs.Priced.{counted-back, counted-front, paid-is, spared-is}

-- what an addition to a tree ensures
pub record Grows (old : SumTree) (place amount : ℕ) (new : SumTree) : Type 0 where
  pub height : new.height ≡ old.height
  pub tree : (number : ℕ → ℕ) → IsSumTree old.height number old.nodes.items → IsSumTree new.height (grown number place amount) new.nodes.items

-- one step taken
pub takes : (old new : CostSweep) (step : CostStep) (place : ℕ) → IsSweep old → old.place < length old.steps.now
    → ((d : CostStep) → step ≡ get_or old.steps.now old.place d) → IsPlaceBefore old.prices.now step.from place
    → new.steps.now ≡ old.steps.now → new.prices.now ≡ old.prices.now → new.place ≡ old.place + 1
    → Grows old.rises place step.rise new.rises → Grows old.fewer place step.fewer new.fewer → new.packets ≡ old.packets + step.packets
    → new.rest + counted (λ s. s.rise) 0 step ≡ old.rest → IsSweep new
takes old new step place is within own at steps prices next rises fewer packets rest =
    let xs = old.steps.now in
    let i = old.place in
    let here : step ≡ get_or xs i step = own step in
    let has : Contains old.prices.now (get_or xs i step).from = is.sorted.all_prices i step within in
    let at' : IsPlaceBefore old.prices.now (get_or xs i step).from place = subst (λ (s : CostStep). IsPlaceBefore old.prices.now s.from place) here at in
    let rise_is : step.rise ≡ (get_or xs i step).rise = ap (λ (s : CostStep). s.rise) here in
    let fewer_is : step.fewer ≡ (get_or xs i step).fewer = ap (λ (s : CostStep). s.fewer) here in
    let packets_is : step.packets ≡ (get_or xs i step).packets = ap (λ (s : CostStep). s.packets) here in
    let rest_is : counted (λ s. s.rise) 0 step ≡ counted (λ s. s.rise) 0 (get_or xs i step) = ap (counted (λ (s : CostStep). s.rise) 0) here in
    let paid = sum_by_more (λ (s : CostStep). s.packets) xs i step within in
    let left = sum_by-drop_more (counted (λ (s : CostStep). s.rise) 0) xs i step within in
    let grown : Holds old.prices.now (λ s. s.rise) (take (i + 1) xs) new.rises =
    holds-more old.prices.now (λ (s : CostStep). s.rise) xs i step old.rises new.rises place step.rise within rise_is at' has is.rises rises.height rises.tree in
    let grown' : Holds old.prices.now (λ s. s.fewer) (take (i + 1) xs) new.fewer =
    holds-more old.prices.now (λ (s : CostStep). s.fewer) xs i step old.fewer new.fewer place step.fewer within fewer_is at' has is.fewer fewer.height fewer.tree in
    let packets' : new.packets ≡ sum_by (λ (s : CostStep). s.packets) (take (i + 1) xs) = omega (arith, is.packets) in
    let rest' : new.rest ≡ sum_by (counted (λ (s : CostStep). s.rise) 0) (drop (i + 1) xs) = omega (arith, is.rest) in
    record {
      sorted = rw (steps, prices) is.sorted;
      within = rw (steps, next) (omega arith);
      rises = rw (steps, prices, next) grown;
      fewer = rw (steps, prices, next) grown';
      packets = rw (steps, next) packets';
      rest = rw (steps, next) rest';
    }

-- what a step costs at price 0 is within what the steps that aren't due cost
pub rest-covers : (sweep : CostSweep) (step : CostStep) → IsSweep sweep → sweep.place < length sweep.steps.now → ((d : CostStep) → step ≡ get_or sweep.steps.now sweep.place d)
    → counted (λ s. s.rise) 0 step ≤ sweep.rest
rest-covers sweep step is within own =
    let here = ap (counted (λ (s : CostStep). s.rise) 0) (own step) in
    let left = sum_by-drop_more (counted (λ (s : CostStep). s.rise) 0) sweep.steps.now sweep.place step within in
    omega (arith, is.rest)

-- what is added to a tree with the next step's amount stays in 128 bits
pub tree-room : (sweep : CostSweep) (amount : CostStep → ℕ) (tree : SumTree) (step : CostStep) (n : ℕ) → Holds sweep.prices.now amount (take sweep.place sweep.steps.now) tree
    → sum_by amount sweep.steps.now < 2 ^ 100 → sweep.place < length sweep.steps.now → ((d : CostStep) → step ≡ get_or sweep.steps.now sweep.place d) → n ≡ amount step
    → (number : ℕ → ℕ) × IsSumTree tree.height number tree.nodes.items × (sum_from number 0 (2 ^ tree.height) + n < 2 ^ 128)
tree-room sweep amount tree step n holds small within own is =
    let here = ap amount (own step) in
    let more = sum_by_more_le amount sweep.steps.now sweep.place step within in
    (holds.number, holds.is_tree, omega (arith, holds.total, more, small, here, is))

-- all steps that are due by a time are taken
pub has-reached : (due : ℕ) (sweep : CostSweep) → IsSweep sweep → ((k : ℕ) (d : CostStep) → k < sweep.place → (get_or sweep.steps.now k d).due ≤ due)
    → ((sweep.place < length sweep.steps.now) × ((d : CostStep) → (get_or sweep.steps.now sweep.place d).due ≤ due) → ⊥) → HasReached due sweep
has-reached due sweep is by past =
    let next : (d : CostStep) → sweep.place < length sweep.steps.now → due < (get_or sweep.steps.now sweep.place d).due = λ d low.
    elim (cases_lt due (get_or sweep.steps.now sweep.place d).due) as (λ _. due < (get_or sweep.steps.now sweep.place d).due) [
      | inl less ↦ less
      | inr most ↦
          absurd (past (low, λ e. (let same = ap (λ (s : CostStep). s.due) (get_or_default sweep.steps.now sweep.place e d low) in omega arith)))
    ] in
    record {
      by = by;
      later = λ k d behind low. (let first : due < (get_or sweep.steps.now sweep.place d).due = next d (omega arith) in
          let order : (get_or sweep.steps.now sweep.place d).due ≤ (get_or sweep.steps.now k d).due = is.sorted.order sweep.place k d behind low in
          omega arith);
    }

-- the next due time is reached
pub went-on : (place due : ℕ) (sweep : CostSweep) → IsSweep sweep → place < length sweep.steps.now → ((d : CostStep) → due ≡ (get_or sweep.steps.now place d).due)
    → HasReached due sweep → WentOn place due sweep
went-on place due sweep is within at reached =
    let none : CostStep = record { due = 0; from = 0; rise = 0; packets = 0; fewer = 0 } in
    let more : place < sweep.place = elim (cases_lt place sweep.place) as (λ _. place < sweep.place) [
      | inl less ↦ less
      | inr most ↦
          absurd (let later : due < (get_or sweep.steps.now place none).due = reached.later place none most within in let own = at none in omega arith)
    ] in
    record {
      more = more;
      reached = reached;
      here = λ k d behind low. (let size = is.within in
          let order : (get_or sweep.steps.now place d).due ≤ (get_or sweep.steps.now k d).due = is.sorted.order place k d behind (omega arith) in
          let most : (get_or sweep.steps.now k d).due ≤ due = reached.by k d low in
          let own = at d in
          omega arith);
    }

-- what the sums of the trees at a price come to
pub record AreCosts (sweep : CostSweep) (price rises fewer : ℕ) : Type 0 where
  pub rises_small : rises < 2 ^ 100
  pub fewer_small : fewer < 2 ^ 60
  pub rest_small : sweep.rest < 2 ^ 100
  pub product_small : sweep.packets * price ≤ 2 ^ 60 * 2 ^ 46
  pub spared_small : fewer * price ≤ 2 ^ 60 * 2 ^ 46
  pub paid : (due : ℕ) → HasReached due sweep → (rises + sweep.rest) + sweep.packets * price ≡ sum_by (paid_by due price) sweep.steps.now
  pub spared : (due : ℕ) → HasReached due sweep → fewer * price ≡ sum_by (spared_by due price) sweep.steps.now

pub are-costs : (sweep : CostSweep) (price place rises fewer : ℕ) → IsSweep sweep → price ≤ 2 ^ 46 → IsPlaceBehind sweep.prices.now price place
    → ((number : ℕ → ℕ) → IsSumTree sweep.rises.height number sweep.rises.nodes.items → rises ≡ sum_from number 0 place)
    → ((number : ℕ → ℕ) → IsSumTree sweep.fewer.height number sweep.fewer.nodes.items → fewer ≡ sum_from number 0 place) → AreCosts sweep price rises fewer
are-costs sweep price place rises fewer is limit at rises_sum fewer_sum =
    let xs = sweep.steps.now in
    let rises_is : rises ≡ sum_by (counted (λ (s : CostStep). s.rise) price) (take sweep.place xs) = rises_sum is.rises.number is.rises.is_tree ∙ is.rises.sums price place at in
    let fewer_is : fewer ≡ sum_by (counted (λ (s : CostStep). s.fewer) price) (take sweep.place xs) = fewer_sum is.fewer.number is.fewer.is_tree ∙ is.fewer.sums price place at in
    let one = counted-front (λ (s : CostStep). s.rise) price xs sweep.place in
    let two = counted-front (λ (s : CostStep). s.fewer) price xs sweep.place in
    let three = counted-back (λ (s : CostStep). s.rise) 0 xs sweep.place in
    let four = sum_by-take-le (λ (s : CostStep). s.packets) xs sweep.place in
    let few : fewer ≤ 2 ^ 60 = omega (arith, is.sorted.small.fewer) in
    let packets_small : sweep.packets ≤ 2 ^ 60 = omega (arith, is.packets, is.sorted.small.packets) in
    record {
      rises_small = omega (arith, is.sorted.small.rises);
      fewer_small = omega (arith, is.sorted.small.fewer);
      rest_small = omega (arith, is.rest, is.sorted.small.rises);
      product_small = mul-le-mul packets_small limit;
      spared_small = mul-le-mul few limit;
      paid = λ due reached.
          (let whole : sum_by (paid_by due price) xs ≡ (sum_by (counted (λ (s : CostStep). s.rise) price) (take sweep.place xs)
          + sum_by (counted (λ (s : CostStep). s.rise) 0) (drop sweep.place xs)) + sum_by (λ (s : CostStep). s.packets) (take sweep.place xs) * price =
          paid-is due price xs sweep.place is.within reached.by reached.later in
          let product : sweep.packets * price ≡ sum_by (λ (s : CostStep). s.packets) (take sweep.place xs) * price = ap (λ n. n * price) is.packets in
          omega (arith, is.rest));
      spared = λ due reached.
          (let whole : sum_by (spared_by due price) xs ≡ sum_by (counted (λ (s : CostStep). s.fewer) price) (take sweep.place xs) * price =
          spared-is due price xs sweep.place is.within reached.by reached.later in
          let product : fewer * price ≡ sum_by (counted (λ (s : CostStep). s.fewer) price) (take sweep.place xs) * price = ap (λ n. n * price) fewer_is in
          omega arith);
    }
