use Rattle.std.proofs.Common.{◌%◌, ℤ, sym, subst, arith}
use Rattle.requantiser.specs.Private.Rungs.{AreRescaledBy}
use Rattle.requantiser.proofs.PairSteps.{held_level}
use Rattle.requantiser.proofs.Rungs.{by_number}
use Rattle.requantiser.proofs.ladder.Rung.new.Goals as goal

pub invariant_of-result-clause-right : goal.invariant_of-result-clause-right
invariant_of-result-clause-right c =
    let rescaled = c.rescale-living.result in
    subst (λ (l : ℤ). AreRescaledBy l (c.key_of.result % 65536) c.args.targets.now.scales rescaled.sizes rescaled.squares) (sym (held_level c.args.coefficient.level c.args.coefficient.small))
    (by_number c.args.coefficient.level c.args.coefficient.weight c.args.rescaling.from (c.key_of.result % 65536) c.args.rescaling.intra c.args.targets.now.scales rescaled.sizes rescaled.squares
    (omega arith) (omega (arith, c.args.rescaling.from_range)) c.key_of.ensures.way c.rescale-living.ensures.each)
