use Rattle.std.proofs.Common.{◌+◌, subst, sym}
use Rattle.bound_certificate.specs.Cert.{IsStatedWindow}
use Rattle.bound_certificate.specs.Spelling.{bytes_of_window}
use Rattle.bound_certificate.proofs.NodeParts.{HasTaken, taken_more}
use Rattle.bound_certificate.proofs.read_node.windows_in.Goals as goal

pub loop-i-preserved : goal.loop-i-preserved
loop-i-preserved c =
    let more = taken_more bytes_of_window IsStatedWindow 24 c.args.block.now c.loop-i.windows c.loop-i.i c.window_at.result c.loop-i.invariant c.window_at.ensures.stated
    c.window_at.ensures.bytes in
    subst (λ items. HasTaken bytes_of_window IsStatedWindow 24 c.args.block.now items (c.loop-i.i + 1)) (sym c.in_ok-push.ensures.ok) more
