use Rattle.std.proofs.Common.{◌≡◌, fold, map, max, take}
use Rattle.slot_rule.proofs.distance.later_unit.Given as goal

abbrev pub invariant-loop-unit : goal.invariant-loop-unit
invariant-loop-unit l = l.latest ≡ fold max l.time (map (λ unit. unit.due) (take l.unit-index l.units))
