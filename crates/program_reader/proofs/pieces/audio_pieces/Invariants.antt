use Rattle.program_reader.proofs.PieceLemmas.{PacketsSoFar}
use Rattle.program_reader.proofs.pieces.audio_pieces.Given as goal

abbrev pub invariant-loop-packet : goal.invariant-loop-packet
invariant-loop-packet l = PacketsSoFar l.clock.start l.clock.earliest l.frames l.packets l.packet-index l.at l.left l.pieces
