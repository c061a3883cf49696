use Rattle.program_reader.proofs.PieceLemmas.{next_packet, packets_more}
use Rattle.program_reader.proofs.pieces.audio_pieces.Goals as goal

pub add_pieces-requires-clause-sized : goal.add_pieces-requires-clause-sized
add_pieces-requires-clause-sized c = (next_packet c.args.clock.now.start c.args.clock.now.earliest c.args.frames.now c.loop-packet.left.now c.args.packets.now c.loop-packet.packet-index
    c.loop-packet.at c.loop-packet.pieces _ c.loop-packet-test.true c.requires.few c.requires.times c.loop-packet.invariant).sized

pub add_pieces-requires-clause-times : goal.add_pieces-requires-clause-times
add_pieces-requires-clause-times c = (next_packet c.args.clock.now.start c.args.clock.now.earliest c.args.frames.now c.loop-packet.left.now c.args.packets.now c.loop-packet.packet-index
    c.loop-packet.at c.loop-packet.pieces _ c.loop-packet-test.true c.requires.few c.requires.times c.loop-packet.invariant).times

pub loop-packet-preserved : goal.loop-packet-preserved
loop-packet-preserved c = packets_more c.args.clock.now.start c.args.clock.now.earliest c.args.frames.now c.loop-packet.left.now c.in_ok-left.left.now c.args.packets.now
    c.loop-packet.packet-index c.loop-packet.at c.packet_size-at.result c.loop-packet.pieces c.add_pieces.new.pieces _ c.loop-packet-test.true c.loop-packet.invariant
    (next_packet c.args.clock.now.start c.args.clock.now.earliest c.args.frames.now c.loop-packet.left.now c.args.packets.now c.loop-packet.packet-index
    c.loop-packet.at c.loop-packet.pieces _ c.loop-packet-test.true c.requires.few c.requires.times c.loop-packet.invariant)
    c.packet_size-at.ensures.value c.packet_size-at.ensures.small c.in_ok-left.ensures.pieces c.in_ok-left.ensures.left
