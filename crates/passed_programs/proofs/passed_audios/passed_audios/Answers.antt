use Rattle.std.proofs.Common.{List, subst}
use Rattle.audio_frames.specs.declared.frame.Frame.{Frame}
use Rattle.elementary_streams.specs.declared.pes_packets.PlacedPacket.{PlacedPacket}
use Rattle.program_reader.specs.Audio.{ArePieces, placed_pieces}
use Rattle.passed_programs.proofs.CutUp.{cut_more}
use Rattle.passed_programs.proofs.passed_audios.passed_audios.Goals as goal

pub loop-stream-preserved : goal.loop-stream-preserved
loop-stream-preserved c = cut_more c.args.clock.now.start c.args.clock.now.earliest c.args.streams.now c.loop-stream.stream-index c.stream-item.result c.loop-stream.audios c.push.new.self
    c.in_ok-audio_pieces.field-0 c.loop-stream-test.true c.stream-item.is c.in_ok-push.ensures.ok c.loop-stream.invariant
    (subst (λ (frames : List Frame). ArePieces c.args.clock.now.start c.args.clock.now.earliest frames (placed_pieces 0 c.stream-item.result.packets.items) c.in_ok-audio_pieces.field-0)
    c.as_slice-in-loop-stream.ensures
    (subst (λ (packets : List PlacedPacket). ArePieces c.args.clock.now.start c.args.clock.now.earliest c.as_slice-in-loop-stream.result.now (placed_pieces 0 packets) c.in_ok-audio_pieces.field-0)
    c.as_slice.ensures.value c.in_ok-audio_pieces.ensures))
