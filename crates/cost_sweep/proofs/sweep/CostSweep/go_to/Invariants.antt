use Rattle.std.proofs.Common.{◌≡◌, ℕ, ◌-◌, ◌<◌, ◌≤◌, length, get_or}
use Rattle.cost_sweep.specs.declared.step.CostStep.{CostStep}
use Rattle.cost_sweep.specs.Sweep.{IsSweep}
use Rattle.cost_sweep.proofs.sweep.CostSweep.go_to.Given as goal

abbrev pub invariant-loop-self : goal.invariant-loop-self
invariant-loop-self l = record {
  sweep : IsSweep l.self;
  steps : l.self.steps.now ≡ l.fn.self.steps.now;
  by : (k : ℕ) (d : CostStep) → k < l.self.place → (get_or l.self.steps.now k d).due ≤ l.due;
}

abbrev pub decreases-loop-self : goal.decreases-loop-self
decreases-loop-self l = length l.self.steps.now - l.self.place
