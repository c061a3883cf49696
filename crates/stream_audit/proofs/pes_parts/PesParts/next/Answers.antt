use Rattle.std.proofs.Common.{◌≡◌, ◌-◌, ◌∷◌, ap, sym, ◌∙◌, arith}
use Rattle.stream_audit.specs.Private.PesParts.{parts_ahead}
use Rattle.stream_audit.proofs.PartSteps.{header-size, next-elementary, next-packet, payload-size}
use Rattle.stream_audit.proofs.pes_parts.PesParts.next.Goals as goal

pub returns-then-self-gt0-3 : goal.returns-then-self-gt0-3
returns-then-self-gt0-3 c =
    let inside = c.self.inside in
    sym c.self.view_is
    ∙ next-elementary inside.kept inside.later.now inside.before inside.header inside.payload (inside.payload - 1) c.next.result c.next.new.self
    (omega (arith, c.if-self-gt0.false)) (omega (arith, c.if-self-gt0-2.false)) (omega (arith, c.if-self-gt0-3.true))
    c.next.ensures.part c.next.ensures.skipped c.next.ensures.kept

pub returns : goal.returns
returns c =
    let inside = c.self.inside in
    let packet = c.in-Some.packet.now in
    let later = c.in-Some.later.now in
    let split : inside.later.now ≡ packet ∷ later = c.in-Some.ensures.cases.0 in
    let header = c.header_length-header.result in
    let lent = c.as_slice-bytes.result.now in
    sym c.self.view_is
    ∙ ap (parts_ahead inside.before inside.header inside.payload inside.kept) split
    ∙ next-packet inside.kept later inside.before inside.header inside.payload packet (header - 1) c.saturating_sub-self-inside.result
    (omega (arith, c.if-self-gt0.false)) (omega (arith, c.if-self-gt0-2.false)) (omega (arith, c.if-self-gt0-3.false))
    (header-size packet lent header c.as_slice-bytes.ensures c.header_length-header.ensures.value c.header_length-header.ensures.some)
    (payload-size packet lent header c.as_slice-bytes.ensures c.header_length-header.ensures.value c.saturating_sub-self-inside.result c.saturating_sub-self-inside.ensures)
