use Rattle.std.proofs.Common.{◌≡◌, map, take}
use Rattle.cost_sweep.proofs.sorted.prices_of.Given as goal

abbrev pub invariant-loop-step : goal.invariant-loop-step
invariant-loop-step l = l.prices.items ≡ map (λ step. step.from) (take l.step-index l.steps)
