use Rattle.std.proofs.Common.{arith}
use Rattle.cost_sweep.specs.declared.step.CostStep.{CostStep}
use Rattle.cost_sweep.proofs.Priced.{counted-front}
use Rattle.cost_sweep.proofs.sweep.rise_at_0.Goals as goal

pub overflow_add-total : goal.overflow_add-total
overflow_add-total c = omega (arith, counted-front (λ (s : CostStep). s.rise) 0 c.args.steps.now c.loop-step.step-index)
