use Rattle.std.proofs.Common.{◌≡◌, take, map}
use Rattle.program_table.proofs.audio_rows.rows_of_pieces.Given as goal

abbrev pub invariant-loop-i : goal.invariant-loop-i
invariant-loop-i l = l.rows ≡ map (λ pieces. map (λ piece. piece.packet) pieces) (take l.i l.audios)
