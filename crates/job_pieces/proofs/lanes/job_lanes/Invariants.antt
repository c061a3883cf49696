use Rattle.std.proofs.Common.{List, ◌++◌, drop}
use Rattle.std.specs.List.{AllZip}
use Rattle.program_reader.specs.declared.program.Program.{Program}
use Rattle.file_pieces.specs.declared.lane.Lane.{Lane}
use Rattle.passed_programs.specs.PassedProgram.{IsReadOff}
use Rattle.job_pieces.specs.JobLanes.{AreJobLanes}
use Rattle.job_pieces.proofs.lanes.job_lanes.Given as goal

abbrev pub invariant-loop-k : goal.invariant-loop-k
invariant-loop-k l = (read : List Program) → AllZip IsReadOff read l.programs → (more : List Lane)
    → AreJobLanes (drop l.k l.jobs) (drop l.k read) (drop l.k l.rows) l.rest more → AreJobLanes l.jobs read l.rows l.choice (l.lanes.items ++ more)
