use Rattle.std.proofs.Common.{◌≡◌, ◌==◌, get_or, ap, ◌∙◌}
use Rattle.ts_demux.specs.declared.demuxed.AudioStream.{AudioStream}
use Rattle.program_stream.proofs.Packets.{same_number, not_true}
use Rattle.program_stream.proofs.Holding.{none_more}
use Rattle.program_stream.proofs.packet_streams.PacketStreams.index_of.Goals as goal

pub loop-index-preserved : goal.loop-index-preserved
loop-index-preserved c =
    let streams = c.args.self.now.streams.items in
    let item = c.stream-item.result in
    let there : item ≡ get_or streams c.loop-index.index item = rw (← c.deref-stream-items.ensures.value) c.stream-item.is in
    none_more streams c.loop-index.index c.args.id item (rw (← c.deref-stream-items.ensures.value) c.loop-index-test.true)
    (not_true ((get_or streams c.loop-index.index item).pid == c.args.id) (λ same. c.if-stream-id.false (ap (λ (s : AudioStream). s.pid) there ∙ same_number (get_or streams c.loop-index.index item).pid c.args.id same)))
    c.loop-index.invariant
