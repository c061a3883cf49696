-- Steps of least costs, and what they come to at a price of a packet.
use Rattle.std.specs.Prelude.{ℕ, ◌+◌, ◌*◌, ◌<◌, ◌^◌, List, length, nat_le, sum_by, if◌then◌else◌}
use Rattle.cost_sweep.specs.declared.step.CostStep.{CostStep}

-- what a step adds to the cost at a price of a packet
abbrev pub paid : (price : ℕ) → CostStep → ℕ
paid price step = (if nat_le step.from price then step.rise else 0) + step.packets * price

-- what a step takes from the cost at a price of a packet
abbrev pub spared : (price : ℕ) → CostStep → ℕ
spared price step = if nat_le step.from price then step.fewer * price else 0

-- the price of the packets of a step's unit, where those that are due by a time have this price and the others none
abbrev pub price_by : (due price : ℕ) → CostStep → ℕ
price_by due price step = if nat_le step.due due then price else 0

-- what a step adds to the cost, where packets that are due by a time have this price
abbrev pub paid_by : (due price : ℕ) → CostStep → ℕ
paid_by due price step = paid (price_by due price step) step

-- what a step takes from the cost, where packets that are due by a time have this price
abbrev pub spared_by : (due price : ℕ) → CostStep → ℕ
spared_by due price step = spared (price_by due price step) step

-- steps so few, and so small together, that no sum of theirs is too great for 127 bits
pub record AreSmall (steps : List CostStep) : Type 0 where
  pub count : length steps < 2 ^ 39
  pub rises : sum_by (λ step. step.rise) steps < 2 ^ 100
  pub packets : sum_by (λ step. step.packets) steps < 2 ^ 60
  pub fewer : sum_by (λ step. step.fewer) steps < 2 ^ 60
