use Rattle.std.proofs.Common.{take}
use Rattle.slot_rule.specs.Private.Heads.{NoneGoneBefore}
use Rattle.slot_rule.proofs.states.first_gone.Given as goal

abbrev pub invariant-loop-state : goal.invariant-loop-state
invariant-loop-state l = NoneGoneBefore (take l.state-index l.states) l.first
