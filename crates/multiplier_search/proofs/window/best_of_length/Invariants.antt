use Rattle.std.proofs.Common.{◌≡◌, ◌-◌, ℕ, List, Option, [], length, take}
use Rattle.cost_sweep.specs.Sweep.{IsSweep}
use Rattle.multiplier_search.specs.Private.Lengths.{HasItsValue, IsBehindAll, Outdoes}
use Rattle.multiplier_search.specs.Private.UnitSteps.{AreStepsOf, times_of}
use Rattle.multiplier_search.specs.Windows.{IsSound}
use Rattle.multiplier_search.proofs.window.best_of_length.Given as goal

abbrev pub invariant-dues : goal.invariant-dues
invariant-dues l = record {
  last : IsSweep l.last;
  before : IsSweep l.before;
  steps : l.last.steps.now ≡ l.steps.steps.items;
  early : l.before.steps.now ≡ l.steps.steps.items;
  behind : IsBehindAll l.ticks l.before l.last;
  sound : IsSound l.best.window;
  best : (fixed : List (Option ℕ)) → AreStepsOf l.table fixed [] l.steps.steps.items → HasItsValue l.table fixed l.fn.start
      → Outdoes l.table fixed l.ticks (times_of (take l.last.place l.steps.steps.items)) l.fn.start l.best;
}

abbrev pub decreases-dues : goal.decreases-dues
decreases-dues l = length l.last.steps.now - l.last.place
