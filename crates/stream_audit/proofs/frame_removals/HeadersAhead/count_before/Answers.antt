use Rattle.std.proofs.Common.{◌∷◌, ◌++◌, [], ◌<◌, arith}
use Rattle.std.proofs.lemmas.List.Elements.{All-push}
use Rattle.elementary_streams.specs.declared.pes_packets.PlacedPacket.{PlacedPacket}
use Rattle.stream_audit.proofs.FrameLaws.{headers_push, passed_more}
use Rattle.stream_audit.proofs.frame_removals.HeadersAhead.count_before.Goals as goal

pub loop-packet-preserved : goal.loop-packet-preserved
loop-packet-preserved c =
    let was = c.loop-packet.invariant in
    let packet = c.in-Some.packet.now in
    record {
      passed = was.passed ++ packet ∷ [];
      split = passed_more c.args.self.now.packets.now was.passed c.loop-packet.self.packets.now c.in-Some.later.now packet was.split c.in-Some.ensures.cases.0;
      before = All-push (λ (p : PlacedPacket). p.from < c.args.end) was.passed packet was.before (omega (arith, c.if-packet-end.false));
      bytes_are = headers_push c.loop-packet.bytes c.from-bytes.result was.passed packet was.bytes_are c.from-bytes.ensures;
    }
