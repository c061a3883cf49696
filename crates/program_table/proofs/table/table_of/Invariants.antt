use Rattle.std.proofs.Common.{drop}
use Rattle.program_table.specs.Private.Rows.{AreProgramRowsSoFar}
use Rattle.program_table.proofs.table.table_of.Given as goal

abbrev pub invariant-loop-i : goal.invariant-loop-i
invariant-loop-i l = AreProgramRowsSoFar l.job.programs (drop l.i l.job.programs) l.programs (drop l.i l.programs) l.rows
