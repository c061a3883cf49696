use Rattle.std.proofs.Common.{◌≡◌, map, take}
use Rattle.std.specs.List.{flat_map}
use Rattle.impossible_proof.specs.Private.Needs.{need_of}
use Rattle.impossible_proof.proofs.needs.needs_in_order.Given as goal

-- what the units of the programs before this one need is listed
abbrev pub invariant-loop-program : goal.invariant-loop-program
invariant-loop-program l = l.needs.items ≡ map need_of (flat_map (λ program. program.units) (take l.program-index l.program-items))
