use Rattle.std.proofs.Common.{◌+◌, Option, sym, ap, ◌∙◌}
use Rattle.std.specs.Option.{option_or}
use Rattle.slot_rule.specs.Queues.{QueuedPacket}
use Rattle.slot_rule.proofs.RulePlaces.{packet_at, packets_from-after}
use Rattle.slot_rule.proofs.UnitPieces.{packet_at-from_clauses}
use Rattle.slot_rule.proofs.queue_items.piece_after.Goals as goal

pub returns-in-Some : goal.returns-in-Some
returns-in-Some c k got =
    let units = c.args.row.now.units in
    let versions = c.args.versions.now in
    let packet = c.args.packet in
    let at = packet_at-from_clauses units versions packet.item (packet.piece + 1) c.unit_packet.result c.requires.versions c.unit_packet.ensures.missing c.unit_packet.ensures.found in
    sym (packets_from-after units versions c.requires.versions k packet got ∙ ap (λ (o : Option QueuedPacket). option_or o (packet_at units versions (packet.item + 1) 0)) (sym at ∙ c.in-Some.is))

pub returns-in-None : goal.returns-in-None
returns-in-None c k got =
    let units = c.args.row.now.units in
    let versions = c.args.versions.now in
    let packet = c.args.packet in
    let at = packet_at-from_clauses units versions packet.item (packet.piece + 1) c.unit_packet.result c.requires.versions c.unit_packet.ensures.missing c.unit_packet.ensures.found in
    let next = packet_at-from_clauses units versions (packet.item + 1) 0 c.unit_packet-in-None.result c.requires.versions c.unit_packet-in-None.ensures.missing c.unit_packet-in-None.ensures.found in
    next ∙ sym (packets_from-after units versions c.requires.versions k packet got
    ∙ ap (λ (o : Option QueuedPacket). option_or o (packet_at units versions (packet.item + 1) 0)) (sym at ∙ c.in-None.is))
