use Rattle.std.proofs.Common.{sym, ◌∙◌, refl}
use Rattle.std.proofs.lemmas.Option.{slice_get_read, slice_get_past}
use Rattle.slot_rule.proofs.AudioPackets.{audio_of-some, audio_of-none}
use Rattle.slot_rule.proofs.queue_items.audio_packet.Goals as goal

pub returns-in_err-packet : goal.returns-in_err-packet
returns-in_err-packet c =
    c.from_residual.ensures ∙ sym (audio_of-none c.args.packets.now c.args.item (slice_get_past c.args.packets.now c.args.item c.in_err-packet.ensures.lookup.3))

pub returns : goal.returns
returns c =
    let l = c.in_ok-packet.ensures.lookup in
    let packets = c.args.packets.now in
    let packet = c.in_ok-packet.packet.now in
    let at = audio_of-some packets c.args.item packet (slice_get_read packets _ c.args.item packet refl l.3.0 l.1) in
    cc (at, c.from.ensures)
