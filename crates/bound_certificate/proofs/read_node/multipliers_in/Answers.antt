use Rattle.std.proofs.Common.{◌+◌, subst, sym}
use Rattle.bound_certificate.specs.Cert.{IsStatedMultiplier}
use Rattle.bound_certificate.specs.Spelling.{bytes_of_multiplier}
use Rattle.bound_certificate.proofs.NodeParts.{HasTaken, taken_more}
use Rattle.bound_certificate.proofs.read_node.multipliers_in.Goals as goal

pub loop-i-preserved : goal.loop-i-preserved
loop-i-preserved c =
    let more = taken_more bytes_of_multiplier IsStatedMultiplier 16 c.args.block.now c.loop-i.multipliers c.loop-i.i c.multiplier_at.result c.loop-i.invariant
    c.multiplier_at.ensures.stated c.multiplier_at.ensures.bytes in
    subst (λ items. HasTaken bytes_of_multiplier IsStatedMultiplier 16 c.args.block.now items (c.loop-i.i + 1)) (sym c.in_ok-push.ensures.ok) more
