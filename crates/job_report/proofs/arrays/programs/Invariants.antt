use Rattle.std.proofs.Common.{◌≡◌, take, map}
use Rattle.serde_json.specs.View.{view}
use Rattle.job_report.specs.Report.{program_object}
use Rattle.job_report.proofs.arrays.programs.Given as goal

abbrev pub invariant-loop-program : goal.invariant-loop-program
invariant-loop-program l = map view l.items.items ≡ map program_object (take l.program-index l.programs)
