use Rattle.std.proofs.Common.{◌≡◌, take, map}
use Rattle.program_table.specs.Table.{audio_row}
use Rattle.program_table.proofs.audio_rows.rows_of_audios.Given as goal

abbrev pub invariant-loop-i : goal.invariant-loop-i
invariant-loop-i l = l.rows ≡ map audio_row (take l.i l.audios)
