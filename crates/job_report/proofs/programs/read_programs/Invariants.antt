use Rattle.std.proofs.Common.{map}
use Rattle.toml.specs.View.{view}
use Rattle.job_report.specs.Private.Programs.{AreReadSoFar}
use Rattle.job_report.proofs.programs.read_programs.Given as goal

abbrev pub invariant-loop-value : goal.invariant-loop-value
invariant-loop-value l = AreReadSoFar (map view l.values) l.value-index l.programs
