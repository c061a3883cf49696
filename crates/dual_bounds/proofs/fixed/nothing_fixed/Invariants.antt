use Rattle.std.proofs.Common.{◌≡◌, map, take, None}
use Rattle.std.specs.List.{flat_map}
use Rattle.dual_bounds.proofs.fixed.nothing_fixed.Given as goal

abbrev pub invariant-loop-program : goal.invariant-loop-program
invariant-loop-program l = l.fixed ≡ map (λ unit. None) (flat_map (λ program. program.units) (take l.program-index l.program-items))
