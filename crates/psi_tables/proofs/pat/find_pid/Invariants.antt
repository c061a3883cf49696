use Rattle.std.proofs.Common.{length}
use Rattle.psi_tables.proofs.ProgramRows.{HasPassed}
use Rattle.psi_tables.proofs.pat.find_pid.Given as goal

abbrev pub invariant-loop-high : goal.invariant-loop-high
invariant-loop-high l = HasPassed l.content l.rest l.number

abbrev pub decreases-loop-high : goal.decreases-loop-high
decreases-loop-high l = length l.rest
