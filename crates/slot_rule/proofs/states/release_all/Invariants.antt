use Rattle.slot_rule.specs.Private.States.{ReleasesAll}
use Rattle.slot_rule.proofs.ListSteps.{ChangesFirst}
use Rattle.slot_rule.proofs.states.release_all.Given as goal

abbrev pub invariant-loop-state : goal.invariant-loop-state
invariant-loop-state l = ChangesFirst (ReleasesAll l.table l.choice l.start) l.state-index l.initial.states l.states
