use Rattle.std.proofs.Common.{◌≡◌, ◌-◌, List, ℕ, Option, [], length, take}
use Rattle.cost_sweep.specs.Sweep.{IsSweep}
use Rattle.multiplier_search.specs.Private.UnitSteps.{AreStepsOf, IsBestValued, times_of}
use Rattle.multiplier_search.proofs.single.best_over.Given as goal

abbrev pub invariant-dues : goal.invariant-dues
invariant-dues l = record {
  sweep : IsSweep l.sweep;
  steps : l.sweep.steps.now ≡ l.steps.steps.items;
  best : (fixed : List (Option ℕ)) → AreStepsOf l.table fixed [] l.sweep.steps.now → IsBestValued l.table fixed (times_of (take l.sweep.place l.sweep.steps.now)) l.best;
}

abbrev pub decreases-dues : goal.decreases-dues
decreases-dues l = length l.sweep.steps.now - l.sweep.place
