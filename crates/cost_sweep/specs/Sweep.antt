-- A sweep over due times.
use Rattle.std.specs.Prelude.{◌≡◌, ℕ, ◌<◌, ◌≤◌, ◌^◌, List, length, take, drop, cond, nat_le, sum_by, slice_index_or}
use Rattle.sum_tree.specs.declared.tree.SumTree.{SumTree}
use Rattle.sum_tree.specs.Nodes.{IsSumTree, sum_from}
use Rattle.cost_sweep.specs.declared.step.CostStep.{CostStep}
use Rattle.cost_sweep.specs.declared.sweep.CostSweep.{CostSweep}
use Rattle.cost_sweep.specs.Places.{IsPlaceBehind}
use Rattle.cost_sweep.specs.Sorted.{AreSorted}

-- an amount of a step, where it counts at a price
abbrev pub counted : (amount : CostStep → ℕ) → (price : ℕ) → CostStep → ℕ
counted amount price step = cond (nat_le step.from price) (amount step) 0

-- a tree has the amounts of some steps, each at the place of the price from which on it counts
pub record Holds (prices : List ℕ) (amount : CostStep → ℕ) (steps : List CostStep) (tree : SumTree) : Type 0 where
  pub height : tree.height ≤ 40
  pub room : length prices < 2 ^ tree.height
  pub number : ℕ → ℕ
  pub is_tree : IsSumTree tree.height number tree.nodes.items
  pub total : sum_from number 0 (2 ^ tree.height) ≡ sum_by amount steps
  pub sums : (price k : ℕ) → IsPlaceBehind prices price k → sum_from number 0 k ≡ sum_by (counted amount price) steps

-- a sweep stands behind the first steps in the order of due times
pub record IsSweep (sweep : CostSweep) : Type 0 where
  pub sorted : AreSorted sweep.steps.now sweep.prices.now
  pub within : sweep.place ≤ length sweep.steps.now
  pub rises : Holds sweep.prices.now (λ step. step.rise) (take sweep.place sweep.steps.now) sweep.rises
  pub fewer : Holds sweep.prices.now (λ step. step.fewer) (take sweep.place sweep.steps.now) sweep.fewer
  pub packets : sweep.packets ≡ sum_by (λ step. step.packets) (take sweep.place sweep.steps.now)
  pub rest : sweep.rest ≡ sum_by (counted (λ step. step.rise) 0) (drop sweep.place sweep.steps.now)

-- a sweep stands behind all steps that are due by a time, and before all others
pub record HasReached (due : ℕ) (sweep : CostSweep) : Type 0 where
  pub by : (k : ℕ) (d : CostStep) → k < sweep.place → (slice_index_or sweep.steps.now k d).due ≤ due
  pub later : (k : ℕ) (d : CostStep) → sweep.place ≤ k → k < length sweep.steps.now → due < (slice_index_or sweep.steps.now k d).due

-- a sweep went on from a place to behind the steps that are due at the next time
pub record WentOn (place due : ℕ) (sweep : CostSweep) : Type 0 where
  pub more : place < sweep.place
  pub reached : HasReached due sweep
  pub here : (k : ℕ) (d : CostStep) → place ≤ k → k < sweep.place → (slice_index_or sweep.steps.now k d).due ≡ due

-- how many packets fewer the steps behind which a sweep stands have at a price
abbrev pub fewer_at : CostSweep → (price : ℕ) → ℕ
fewer_at sweep price = sum_by (counted (λ step. step.fewer) price) (take sweep.place sweep.steps.now)

-- the least price at which these are more than so many
pub record IsFirstOver (sweep : CostSweep) (fewer price : ℕ) : Type 0 where
  pub over : fewer < fewer_at sweep price
  pub before : (other : ℕ) → other < price → fewer_at sweep other ≤ fewer
