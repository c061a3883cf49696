use Rattle.std.proofs.Common.{◌≡◌, ◌+◌}
use Rattle.dual_bounds.specs.Private.Counts.{audio_within}
use Rattle.dual_bounds.specs.Room.{audio_due}
use Rattle.dual_bounds.proofs.AudioDue.{programs_from}
use Rattle.dual_bounds.proofs.room.packets_due.Given as goal

-- what is counted so far and what is still to come make the whole
abbrev pub invariant-loop-program : goal.invariant-loop-program
invariant-loop-program l = l.total + audio_within l.from l.due (programs_from l.program-items l.program-index) ≡ audio_due l.table l.from l.due
