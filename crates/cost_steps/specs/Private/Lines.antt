-- Versions as lines of their costs.
use Rattle.std.specs.Prelude.{◌≡◌, ℕ, ◌+◌, ◌-◌, ◌*◌, ◌<◌, ◌≤◌, ◌^◌, List, ◌++◌, length, map, sum_by, All, slice_index_or}
use Rattle.version_table.specs.declared.table.Version.{Version}
use Rattle.dual_bounds.specs.declared.constants.TheConstants.{DISTORTION_PARTS}
use Rattle.version_table.specs.Choice.{least}
use Rattle.dual_bounds.specs.Values.{cost, packet_count}
use Rattle.cost_sweep.specs.declared.step.CostStep.{CostStep}
use Rattle.cost_sweep.specs.Steps.{paid, spared}
use Rattle.cost_steps.specs.declared.constants.TheConstants.{PRICE_MOST}
use Rattle.cost_steps.specs.declared.steps.Line.{Line}

-- what a line costs at a price
abbrev pub line_cost : Line → (price : ℕ) → ℕ
line_cost line price = line.rise + line.packets * price

-- the line of a version
pub record IsLineOf (version : Version) (line : Line) : Type 0 where
  pub rise : line.rise ≡ DISTORTION_PARTS * version.distortion
  pub packets : line.packets ≡ packet_count version

-- the line of one of the versions, and none costs less at the price
pub record IsLeastLine (versions : List Version) (price : ℕ) (line : Line) : Type 0 where
  pub small : line.rise + line.packets * PRICE_MOST < 2 ^ 63
  pub one : (k : ℕ) × (k < length versions) × ((d : Version) → IsLineOf (slice_index_or versions k d) line)
  pub least : All (λ version. line_cost line price ≤ cost price version) versions

-- a version with fewer packets than a line costs less at a price
pub record CostsLess (price : ℕ) (line : Line) (version : Version) : Type 0 where
  pub fewer : packet_count version < line.packets
  pub less : cost price version < line_cost line price

-- the price from which on another version with fewer packets costs less
pub record IsNext (versions : List Version) (line : Line) (next : ℕ) : Type 0 where
  pub most : next ≤ PRICE_MOST + 1
  pub before : (price : ℕ) → price < next → All (λ version. packet_count version < line.packets → line_cost line price ≤ cost price version) versions
  pub at : next ≤ PRICE_MOST → (k : ℕ) × (k < length versions) × ((d : Version) → CostsLess next line (slice_index_or versions k d))

-- the first step above a base price: what a line costs
abbrev pub first_step : (base due : ℕ) → Line → CostStep
first_step base due line = record { due = due; from = 0; rise = line.rise + line.packets * base; packets = line.packets; fewer = 0 }

-- the step above a base price from a line to another one with fewer packets
abbrev pub step_between : (base due price : ℕ) → (line next : Line) → CostStep
step_between base due price line next = record {
  due = due;
  from = price - base;
  rise = (next.rise - line.rise) - (line.packets - next.packets) * base;
  packets = 0;
  fewer = line.packets - next.packets;
}

-- the steps of the least cost above a base price, up to a price, from which on they say what a line costs, that of a version that costs least there
pub record AreSoFar (base due : ℕ) (versions : List Version) (price : ℕ) (line : Line) (steps : List CostStep) : Type 0 where
  pub limit : price ≤ PRICE_MOST
  pub from_base : base ≤ price
  pub line_is : IsLeastLine versions price line
  pub dues : All (λ step. step.due ≡ due) steps
  pub some : 1 ≤ length steps
  pub count : length steps + line.packets ≤ sum_by (λ step. step.packets) steps + 1
  pub few : sum_by (λ step. step.packets) steps < 2 ^ 15
  pub rises : sum_by (λ step. step.rise) steps ≡ line.rise + line.packets * base
  pub packets : sum_by (λ step. step.fewer) steps + line.packets ≡ sum_by (λ step. step.packets) steps
  pub below : (p : ℕ) → base + p < price → least (map (cost (base + p)) versions) + sum_by (spared p) steps ≡ sum_by (paid p) steps
  pub behind : (p : ℕ) → price ≤ base + p → line_cost line (base + p) + sum_by (spared p) steps ≡ sum_by (paid p) steps

-- steps are added up to the price at which the next one comes
pub record GoesOn (base due : ℕ) (versions : List Version) (line : Line) (next : ℕ) (before after : List CostStep) : Type 0 where
  pub own : List CostStep
  pub is : after ≡ before ++ own
  pub from : ℕ
  pub so_far : AreSoFar base due versions from line own
  pub is_next : IsNext versions line next
