-- The least cost of a unit's versions as steps.
use Rattle.std.specs.Prelude.{◌≡◌, ℕ, ◌+◌, ◌<◌, ◌≤◌, ◌^◌, List, length, map, sum_by, All}
use Rattle.version_table.specs.declared.table.Version.{Version}
use Rattle.version_table.specs.Choice.{least}
use Rattle.dual_bounds.specs.Values.{cost}
use Rattle.cost_sweep.specs.declared.step.CostStep.{CostStep}
use Rattle.cost_sweep.specs.Steps.{paid, spared}
use Rattle.cost_steps.specs.declared.constants.TheConstants.{PRICE_MOST}

-- the steps of a unit that is due at a time: at each price the least cost of its versions is what the steps add less what they take
pub record TellLeast (due : ℕ) (versions : List Version) (steps : List CostStep) : Type 0 where
  pub dues : All (λ step. step.due ≡ due) steps
  pub some : 1 ≤ length steps
  pub costs : (price : ℕ) → price ≤ PRICE_MOST → least (map (cost price) versions) + sum_by (spared price) steps ≡ sum_by (paid price) steps
  pub count : length steps ≤ 2 ^ 15
  pub rises : sum_by (λ step. step.rise) steps < 2 ^ 63
  pub packets : sum_by (λ step. step.packets) steps < 2 ^ 17
  pub fewer : sum_by (λ step. step.fewer) steps < 2 ^ 17

-- the steps of a unit that is due at a time, where each packet costs a base price already: at each price beside it the least cost of its versions at both
-- together is what the steps add less what they take
pub record TellLeastAbove (base due : ℕ) (versions : List Version) (steps : List CostStep) : Type 0 where
  pub dues : All (λ step. step.due ≡ due) steps
  pub some : 1 ≤ length steps
  pub costs : (price : ℕ) → base + price ≤ PRICE_MOST → least (map (cost (base + price)) versions) + sum_by (spared price) steps ≡ sum_by (paid price) steps
  pub count : length steps ≤ 2 ^ 15
  pub rises : sum_by (λ step. step.rise) steps < 2 ^ 63
  pub packets : sum_by (λ step. step.packets) steps < 2 ^ 17
  pub fewer : sum_by (λ step. step.fewer) steps < 2 ^ 17
