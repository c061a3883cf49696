-- The best windows of one length, and their values.
use Rattle.std.specs.Prelude.{◌≡◌, ℕ, ◌+◌, ◌<◌, ◌≤◌, List, [], ◌∷◌, length, Option, ◌≤ℤ◌, slice_index_or}
use Rattle.std.specs.List.{Contains}
use Rattle.version_table.specs.declared.table.Table.{Table}
use Rattle.dual_bounds.specs.declared.constants.TheConstants.{LAMBDA_MOST}
use Rattle.dual_bounds.specs.Values.{value_of_windows}
use Rattle.cost_sweep.specs.declared.step.CostStep.{CostStep}
use Rattle.cost_sweep.specs.declared.sweep.CostSweep.{CostSweep}
use Rattle.multiplier_search.specs.declared.window.ValuedWindow.{ValuedWindow}
use Rattle.multiplier_search.specs.Private.Lambda.{value_at}

-- the value that stands beside a window is its value alone
abbrev pub HasItsValue : Table → List (Option ℕ) → ValuedWindow → Type 0
HasItsValue table fixed valued = valued.value ≡ value_of_windows table fixed (valued.window ∷ [])

-- a window with its value that is no less than another's, nor than that of any window which ends at one of these due times and begins so
-- many ticks before it, behind time 0
pub record Outdoes (table : Table) (fixed : List (Option ℕ)) (ticks : ℕ) (dues : List ℕ) (start best : ValuedWindow) : Type 0 where
  pub valued : HasItsValue table fixed best
  pub least : start.value ≤ℤ best.value
  pub each : (from due lambda : ℕ) → Contains dues due → 1 ≤ from → from + ticks ≡ due → lambda ≤ LAMBDA_MOST → value_at table fixed from due lambda ≤ℤ best.value

-- the steps before the place of a sweep are due more than so many ticks before a time
abbrev pub IsBehindBy : (ticks time : ℕ) → CostSweep → Type 0
IsBehindBy ticks time sweep = (k : ℕ) (d : CostStep) → k < sweep.place → (slice_index_or sweep.steps.now k d).due + ticks < time

-- one sweep is behind all due times that another has before it
abbrev pub IsBehindAll : (ticks : ℕ) → (before last : CostSweep) → Type 0
IsBehindAll ticks before last =
    (j : ℕ) (d : CostStep) → last.place ≤ j → j < length last.steps.now → IsBehindBy ticks (slice_index_or last.steps.now j d).due before
