use Rattle.std.proofs.Common.{◌≡◌, take, sum_by}
use Rattle.cost_sweep.specs.Sweep.{counted}
use Rattle.cost_sweep.proofs.sweep.rise_at_0.Given as goal

abbrev pub invariant-loop-step : goal.invariant-loop-step
invariant-loop-step l = l.total ≡ sum_by (counted (λ step. step.rise) 0) (take l.step-index l.steps)
