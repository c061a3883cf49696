use Rattle.std.proofs.Common.{◌+◌, subst, sym, arith}
use Rattle.bound_certificate.specs.Cert.{IsStatedBufferWindow}
use Rattle.bound_certificate.specs.Spelling.{bytes_of_buffer_window}
use Rattle.bound_certificate.proofs.NodeParts.{HasTaken, taken_more}
use Rattle.bound_certificate.proofs.read_node.buffer_windows_in.Goals as goal

pub push-requires : goal.push-requires
push-requires c = omega (arith, c.loop-i.invariant.count, c.loop-i-test.true, c.requires.few)

pub loop-i-preserved : goal.loop-i-preserved
loop-i-preserved c =
    let more = taken_more bytes_of_buffer_window IsStatedBufferWindow 25 c.args.block.now c.loop-i.windows c.loop-i.i c.buffer_window_at.result c.loop-i.invariant c.buffer_window_at.ensures.stated
    c.buffer_window_at.ensures.bytes in
    subst (λ items. HasTaken bytes_of_buffer_window IsStatedBufferWindow 25 c.args.block.now items (c.loop-i.i + 1)) (sym c.in_ok-push.ensures.ok) more
