use Rattle.elementary_streams.proofs.StartLemmas.{Begun, begun_step}
use Rattle.elementary_streams.proofs.pes_starts.audio_starts.Goals as goal

pub loop-packet-preserved : goal.loop-packet-preserved
loop-packet-preserved c =
    let before : Begun c.args.first.now.time c.args.packets.now c.loop-packet.packet-index c.loop-packet.starts.items c.loop-packet.before.time = record {
      starts_are = c.loop-packet.invariant.starts;
      before_is = c.loop-packet.invariant.before;
      near = c.loop-packet.invariant.near;
      all_near = c.loop-packet.invariant.all_near;
    } in
    let after = begun_step c.args.first.now.time c.args.packets.now c.loop-packet.packet-index _ c.loop-packet.starts.items c.push.new.self.items c.start_behind-start.result
    c.loop-packet.before.time c.moved_to-before.result.time c.loop-packet-test.true c.requires.few c.start_behind-start.ensures.at c.start_behind-start.ensures.time
    c.moved_to-before.ensures c.in_ok-push.ensures.items before in
    record { starts = after.starts_are; before = after.before_is; near = after.near; all_near = after.all_near }
