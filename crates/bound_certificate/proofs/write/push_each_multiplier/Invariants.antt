use Rattle.std.proofs.Common.{◌≡◌, ◌++◌, take}
use Rattle.std.specs.List.{flat_map}
use Rattle.bound_certificate.specs.Spelling.{bytes_of_multiplier}
use Rattle.bound_certificate.proofs.write.push_each_multiplier.Given as goal

abbrev pub invariant-loop-multiplier : goal.invariant-loop-multiplier
invariant-loop-multiplier l = l.out.items ≡ l.initial.out.items ++ flat_map bytes_of_multiplier (take l.multiplier-index l.multipliers)
