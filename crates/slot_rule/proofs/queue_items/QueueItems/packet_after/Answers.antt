use Rattle.std.proofs.Common.{◌≡◌, ℕ, ◌+◌, List, slice_get, slice_index_or, [], Option, Some, sym, ap, subst, ◌∙◌}
use Rattle.version_table.specs.declared.table.AudioPacket.{AudioPacket}
use Rattle.version_table.specs.declared.table.Table.{Table}
use Rattle.slot_rule.specs.declared.queue_items.QueueItems.{QueueItems}
use Rattle.slot_rule.specs.declared.queue_items.QueueItems.TheVariants.{Packets}
use Rattle.slot_rule.specs.Private.QueueItems.{program_at}
use Rattle.slot_rule.specs.Private.QueueState.{packets_at}
use Rattle.slot_rule.specs.Queues.{QueuedPacket, audio_of}
use Rattle.slot_rule.proofs.AudioPackets.{audio_of-item}
use Rattle.slot_rule.proofs.queue_items.QueueItems.packet_after.Goals as goal

after_of_packets : (table : Table) (choice : List ℕ) (program audio : ℕ) (packets : List AudioPacket) (packet : QueuedPacket) (o : Option QueuedPacket)
    → packets ≡ slice_index_or (program_at table program).audios audio [] → o ≡ slice_get (audio_of packets).packets (packet.item + 1)
    → (k : ℕ) → slice_get (packets_at table choice (Packets program audio)) k ≡ Some packet → o ≡ slice_get (packets_at table choice (Packets program audio)) (k + 1)
after_of_packets table choice program audio packets packet o packets_are next k got =
    let list = slice_index_or (program_at table program).audios audio [] in
    next ∙ ap (λ (p : List AudioPacket). slice_get (audio_of p).packets (packet.item + 1)) packets_are
    ∙ ap (λ n. slice_get (audio_of list).packets (n + 1)) (audio_of-item list k packet got)

pub returns-in-Packets : goal.returns-in-Packets
returns-in-Packets c k got =
    let table = c.args.table.now in
    let choice = c.args.choice.now in
    let packet = c.args.packet in
    let got' = subst (λ (s : QueueItems). slice_get (packets_at table choice s) k ≡ Some packet) c.in-Packets.is got in
    subst (λ (s : QueueItems). c.audio_packet.result ≡ slice_get (packets_at table choice s) (k + 1)) (sym c.in-Packets.is)
    (after_of_packets table choice c.in-Packets.program c.in-Packets.audio c.audio_at.result.now packet c.audio_packet.result c.audio_at.ensures c.audio_packet.ensures k got')
