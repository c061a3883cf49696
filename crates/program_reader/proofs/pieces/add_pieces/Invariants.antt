use Rattle.program_reader.proofs.PieceLemmas.{PiecesSoFar}
use Rattle.program_reader.proofs.pieces.add_pieces.Given as goal

abbrev pub invariant-loop-k : goal.invariant-loop-k
invariant-loop-k l = PiecesSoFar l.clock.start l.clock.earliest l.frames l.packet l.at l.k l.left l.initial.pieces l.pieces
