use Rattle.std.proofs.Common.{◌≡◌, refl, sym, ap, ◌∙◌, Some, None, true, false}
use Rattle.std.specs.Option.{option_map}
use Rattle.ts_packets.specs.Packet.{record_of}
use Rattle.ts_packets.specs.TransportStream.{piece_at}
use Rattle.ts_demux.specs.Private.PayloadWalk.{payload_packet, repeats}
use Rattle.ts_demux.proofs.PayloadLemmas.{adds_nothing, adds_repeat, adds_payload, some_payload}
use Rattle.ts_demux.proofs.payload_walk.PayloadWalk.step.Goals as goal

pub returns-in_default-payload_packet : goal.returns-in_default-payload_packet
returns-in_default-payload_packet c =
    let walk = c.args.self.now in
    let none : payload_packet walk.pid (piece_at walk.file.now walk.next) ≡ None = ap (payload_packet walk.pid) (sym c.in-Some.ensures.some.1) ∙ sym c.in_default-payload_packet.ensures in
    (record { within = c.in-Some.ensures.some.0; next = refl; file = refl }, adds_nothing walk.file.now walk.pid walk.next walk.last c.in-Some.ensures.some.0 none)

pub returns-then-is_repeat : goal.returns-then-is_repeat
returns-then-is_repeat c =
    let walk = c.args.self.now in
    let packet = c.in-Some-payload_packet.packet in
    let is : payload_packet walk.pid (piece_at walk.file.now walk.next)
    ≡ Some (record_of packet) = ap (payload_packet walk.pid) (sym c.in-Some.ensures.some.1) ∙ sym c.in-Some-payload_packet.ensures in
    let again : repeats (option_map record_of walk.last) (record_of packet) ≡ true = sym c.is_repeat-is_repeat.ensures ∙ c.if-is_repeat.true in
    (record { within = c.in-Some.ensures.some.0; next = refl; file = refl }, adds_repeat walk.file.now walk.pid walk.next walk.last packet c.in-Some.ensures.some.0 is again)

pub returns : goal.returns
returns c =
    let walk = c.args.self.now in
    let packet = c.in-Some-payload_packet.packet in
    let is : payload_packet walk.pid (piece_at walk.file.now walk.next)
    ≡ Some (record_of packet) = ap (payload_packet walk.pid) (sym c.in-Some.ensures.some.1) ∙ sym c.in-Some-payload_packet.ensures in
    let again : repeats (option_map record_of walk.last) (record_of packet) ≡ false = sym c.is_repeat-is_repeat.ensures ∙ c.if-is_repeat.false in (
      record { within = c.in-Some.ensures.some.0; next = refl; file = refl },
      adds_payload walk.file.now walk.pid walk.next walk.last packet c.in-Some.ensures.some.0 is again,
      some_payload walk.pid (piece_at walk.file.now walk.next) (record_of packet) is,
    )
