use Rattle.std.proofs.Common.{◌-◌, length, take}
use Rattle.cost_sweep.specs.Sweep.{IsSweep}
use Rattle.multiplier_search.specs.Private.Additions.{IsBestAddition}
use Rattle.multiplier_search.specs.Private.UnitSteps.{AreStepsOf, times_of}
use Rattle.multiplier_search.proofs.additions.best_addition.Given as goal

abbrev pub invariant-dues : goal.invariant-dues
invariant-dues l = record {
  sweep : IsSweep l.sweep;
  steps : AreStepsOf l.table l.fixed l.start l.sweep.steps.now;
  best : IsBestAddition l.table l.fixed l.start (times_of (take l.sweep.place l.sweep.steps.now)) l.best;
}

abbrev pub decreases-dues : goal.decreases-dues
decreases-dues l = length l.sweep.steps.now - l.sweep.place
