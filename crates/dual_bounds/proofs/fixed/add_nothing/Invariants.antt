use Rattle.std.proofs.Common.{◌≡◌, ◌++◌, map, take, None}
use Rattle.dual_bounds.proofs.fixed.add_nothing.Given as goal

abbrev pub invariant-loop-unit : goal.invariant-loop-unit
invariant-loop-unit l = l.fixed ≡ l.initial.fixed ++ map (λ unit. None) (take l._unit-index l.units)
