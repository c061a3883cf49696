use Rattle.slot_rule.specs.Private.States.{TakesPcr}
use Rattle.slot_rule.proofs.ListSteps.{ChangesFirst}
use Rattle.slot_rule.proofs.states.take_pcr.Given as goal

abbrev pub invariant-loop-state : goal.invariant-loop-state
invariant-loop-state l = ChangesFirst (TakesPcr l.program l.now) l.state-index l.initial.states l.states
