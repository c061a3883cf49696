use Rattle.std.proofs.Common.{◌≡◌, take, map}
use Rattle.program_table.proofs.audio_rows.row_of_audio.Given as goal

abbrev pub invariant-loop-piece : goal.invariant-loop-piece
invariant-loop-piece l = l.row ≡ map (λ piece. piece.packet) (take l.piece-index l.pieces)
