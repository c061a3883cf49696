use Rattle.slot_rule.specs.Private.Heads.{PassesAt}
use Rattle.slot_rule.proofs.TurnLaws.{NonePass}
use Rattle.slot_rule.proofs.heads.permitted_head.Given as goal

abbrev pub invariant-loop-place : goal.invariant-loop-place
invariant-loop-place l = NonePass (PassesAt l.start) l.states l.turns l.place
