use Rattle.cost_steps.specs.Private.Lines.{GoesOn}
use Rattle.cost_steps.proofs.steps.add_steps_above.Given as goal

abbrev pub invariant-loop-price : goal.invariant-loop-price
invariant-loop-price l = GoesOn l.base l.due l.versions l.line l.price l.fn.steps.items l.steps.items

abbrev pub decreases-loop-price : goal.decreases-loop-price
decreases-loop-price l = l.line.packets
