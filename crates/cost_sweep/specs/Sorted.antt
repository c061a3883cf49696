-- Steps in the order of their due times, and their prices.
use Rattle.std.specs.Prelude.{ℕ, ◌<◌, ◌^◌, List, length, All}
use Rattle.std.specs.List.{Contains}
use Rattle.std.specs.List.Sorted.{IsNonDecreasing, IsNonDecreasingBy}
use Rattle.cost_sweep.specs.declared.step.CostStep.{CostStep}
use Rattle.cost_sweep.specs.Steps.{AreSmall}

-- small steps in the order of their due times, and the prices from which on they count, in rising order
pub record AreSorted (steps : List CostStep) (prices : List ℕ) : Type 0 where
  pub order : IsNonDecreasingBy (λ step. step.due) steps
  pub small : AreSmall steps
  pub rise : IsNonDecreasing prices
  pub all_prices : All (λ step. Contains prices step.from) steps
  pub few : length prices < 2 ^ 39
