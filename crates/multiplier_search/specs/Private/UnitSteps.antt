-- The steps of a table's units, and a sweep over them.
use Rattle.std.specs.Prelude.{◌≡◌, ℕ, ◌+◌, ◌*◌, ◌<◌, ◌≤◌, ◌^◌, ◌⊎◌, List, [], ◌∷◌, ◌++◌, length, map, sum_by, Option, Some, None, All, ◌<ℤ◌}
use Rattle.std.specs.List.{Contains}
use Rattle.version_table.specs.declared.table.Unit.{Unit as CodedUnit}
use Rattle.version_table.specs.declared.table.Table.{Table}
use Rattle.version_table.specs.Table.{units_of}
use Rattle.dual_bounds.specs.declared.constants.TheConstants.{LAMBDA_MOST, WINDOWS_MOST}
use Rattle.dual_bounds.specs.declared.windows.Window.{Window}
use Rattle.dual_bounds.specs.Fixed.{allowed}
use Rattle.dual_bounds.specs.Values.{least_costs, price}
use Rattle.cost_sweep.specs.declared.step.CostStep.{CostStep}
use Rattle.cost_sweep.specs.declared.sweep.CostSweep.{CostSweep}
use Rattle.cost_sweep.specs.declared.sweep.Costs.{Costs}
use Rattle.cost_sweep.specs.declared.sorted.SortedSteps.{SortedSteps}
use Rattle.cost_sweep.specs.Sorted.{AreSorted}
use Rattle.cost_sweep.specs.Steps.{AreSmall, paid_by, spared_by}
use Rattle.cost_sweep.specs.Sweep.{HasReached}
use Rattle.cost_steps.specs.Steps.{TellLeastAbove}
use Rattle.multiplier_search.specs.declared.single.Valued.{Valued}
use Rattle.multiplier_search.specs.Single.{IsFirstBest, dues_of, value_alone}

-- the due times of some steps
abbrev pub times_of : List CostStep → List ℕ
times_of steps = map (λ step. step.due) steps

-- one window from time 0 on, beside others
abbrev pub beside : List Window → (due lambda : ℕ) → List Window
beside windows due lambda = record { from = 0; due = due; lambda = lambda } ∷ windows

-- windows beside which one more may stand
pub record LeaveRoom (windows : List Window) : Type 0 where
  pub few : length windows < WINDOWS_MOST
  pub lambdas : All (λ window. window.lambda ≤ LAMBDA_MOST) windows

-- the steps of a unit's allowed versions above what its packets are charged by some windows are put behind others
pub record AddUnit (windows : List Window) (unit : CodedUnit) (entry : Option ℕ) (before after : List CostStep) : Type 0 where
  pub own : List CostStep
  pub is : after ≡ before ++ own
  pub base : ℕ
  pub charged : base ≡ price windows unit.due
  pub tell : TellLeastAbove base unit.due (allowed unit entry) own

-- the steps of some units above what their packets are charged by some windows are put behind others
pub record AddSteps (windows : List Window) (units : List CodedUnit) (fixed : List (Option ℕ)) (before after : List CostStep) : Type 0 where
  pub costs : (due lambda : ℕ) → lambda ≤ LAMBDA_MOST
      → (least_costs (beside windows due lambda) units fixed + sum_by (spared_by due lambda) after) + sum_by (paid_by due lambda) before
      ≡ sum_by (paid_by due lambda) after + sum_by (spared_by due lambda) before
  pub count : length after ≤ length before + length units * 2 ^ 15
  pub rises : sum_by (λ step. step.rise) after ≤ sum_by (λ step. step.rise) before + length units * 2 ^ 63
  pub packets : sum_by (λ step. step.packets) after ≤ sum_by (λ step. step.packets) before + length units * 2 ^ 17
  pub fewer : sum_by (λ step. step.fewer) after ≤ sum_by (λ step. step.fewer) before + length units * 2 ^ 17
  pub from : (time : ℕ) → Contains (times_of after) time → Contains (times_of before) time ⊎ Contains (dues_of units) time
  pub kept : (time : ℕ) → Contains (times_of before) time → Contains (times_of after) time
  pub all : (time : ℕ) → Contains (dues_of units) time → Contains (times_of after) time

-- the steps of all units of a table beside some windows: what the units cost at least under these and one more from time 0 on is what the steps
-- add less what they take
pub record AreStepsOf (table : Table) (fixed : List (Option ℕ)) (windows : List Window) (steps : List CostStep) : Type 0 where
  pub costs : (due lambda : ℕ) → lambda ≤ LAMBDA_MOST
      → least_costs (beside windows due lambda) (units_of table) fixed + sum_by (spared_by due lambda) steps ≡ sum_by (paid_by due lambda) steps
  pub small : AreSmall steps
  pub from : (time : ℕ) → Contains (times_of steps) time → Contains (dues_of (units_of table)) time
  pub all : (time : ℕ) → Contains (dues_of (units_of table)) time → Contains (times_of steps) time

-- the steps of all units of a table beside some windows, in order
pub record AreSortedOf (table : Table) (fixed : List (Option ℕ)) (windows : List Window) (sorted : SortedSteps) : Type 0 where
  pub are : AreSorted sorted.steps.items sorted.prices.items
  pub steps : AreStepsOf table fixed windows sorted.steps.items

-- the value that stands beside a multiplier is its value alone
abbrev pub IsValued : Table → List (Option ℕ) → Valued → Type 0
IsValued table fixed valued = valued.value ≡ value_alone table fixed valued.multiplier

-- a multiplier with its value is no worse than another
abbrev pub IsNoWorseValued : Valued → (other : Valued) → Type 0
IsNoWorseValued a b =
    (b.value <ℤ a.value)
    ⊎ ((b.value ≡ a.value)
    × ((a.multiplier.due < b.multiplier.due) ⊎ ((a.multiplier.due ≡ b.multiplier.due) × (a.multiplier.lambda ≤ b.multiplier.lambda))))

-- the one of two multipliers with their values that is no worse
abbrev pub IsBetterValued : (a b better : Valued) → Type 0
IsBetterValued a b better = ((better ≡ a) × IsNoWorseValued a b) ⊎ ((better ≡ b) × IsNoWorseValued b a)

-- the first best multiplier at these due times and its value; none where there is no time
abbrev pub IsBestValued : Table → List (Option ℕ) → List ℕ → Option Valued → Type 0
IsBestValued table fixed dues None = dues ≡ []
IsBestValued table fixed dues (Some valued) = IsFirstBest table fixed dues valued.multiplier × IsValued table fixed valued

-- one sweep has reached the end of a window, and one over the same units beside the same windows has reached the tick before its beginning
pub record AreAtWindow (table : Table) (fixed : List (Option ℕ)) (windows : List Window) (from due : ℕ) (last before : CostSweep) : Type 0 where
  pub order : from ≤ due
  pub some : 1 ≤ from
  pub steps : AreStepsOf table fixed windows last.steps.now
  pub early : AreStepsOf table fixed windows before.steps.now
  pub reached : HasReached due last
  pub passed : (time : ℕ) → time + 1 ≡ from → HasReached time before

-- what the units cost at least beside some windows where no packet has a price more
abbrev pub AreFree : Table → List (Option ℕ) → List Window → (due : ℕ) → Costs → Type 0
AreFree table fixed windows due free = least_costs (beside windows due 0) (units_of table) fixed + free.spared ≡ free.paid
