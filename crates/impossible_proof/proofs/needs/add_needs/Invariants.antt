use Rattle.std.proofs.Common.{◌≡◌, ◌++◌, map, take}
use Rattle.impossible_proof.specs.Private.Needs.{need_of}
use Rattle.impossible_proof.proofs.needs.add_needs.Given as goal

abbrev pub invariant-loop-unit : goal.invariant-loop-unit
invariant-loop-unit l = l.needs.items ≡ l.initial.needs.items ++ map need_of (take l.unit-index l.units)
