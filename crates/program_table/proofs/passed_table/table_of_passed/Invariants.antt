use Rattle.std.proofs.Common.{List, drop}
use Rattle.program_reader.specs.declared.program.Program.{Program}
use Rattle.job_programs.specs.Passed.{AreSizedOff}
use Rattle.program_table.specs.Private.Rows.{AreProgramRowsSoFar}
use Rattle.program_table.proofs.passed_table.table_of_passed.Given as goal

abbrev pub invariant-loop-i : goal.invariant-loop-i
invariant-loop-i l = (programs : List Program) → AreSizedOff l.job programs l.read → AreProgramRowsSoFar l.job.programs (drop l.i l.job.programs) programs (drop l.i programs) l.rows
