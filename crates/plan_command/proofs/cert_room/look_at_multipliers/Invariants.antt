use Rattle.std.proofs.Common.{drop}
use Rattle.std.specs.List.{AllByRecursion}
use Rattle.bound_certificate.specs.Cert.{IsStatedMultiplier}
use Rattle.plan_command.proofs.cert_room.look_at_multipliers.Given as goal

abbrev pub invariant-loop-multiplier : goal.invariant-loop-multiplier
invariant-loop-multiplier l = AllByRecursion IsStatedMultiplier (drop l.multiplier-index l.multipliers) → AllByRecursion IsStatedMultiplier l.multipliers
