use Rattle.std.proofs.Common.{refl}
use Rattle.version_table.specs.Lines.{line_of_packet, text_of_line}
use Rattle.version_table.proofs.Pushed.{parts_more}
use Rattle.version_table.proofs.write.push_packets.Goals as goal

pub loop-packet-preserved : goal.loop-packet-preserved
loop-packet-preserved c =
    parts_more text_of_line line_of_packet _ c.loop-packet.packet-index _ _ c.args.out.now.items c.loop-packet.out.items _ c.loop-packet-test.true refl c.loop-packet.invariant c.in_ok-push_packet.ensures
