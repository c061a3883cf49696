use Rattle.std.proofs.Common.{◌≡◌, length}
use Rattle.job_report.specs.Field.{rises}
use Rattle.job_report.proofs.values.rise.Given as goal

abbrev pub invariant-loop-rest : goal.invariant-loop-rest
invariant-loop-rest l = rises l.numbers ≡ rises l.rest

abbrev pub decreases-loop-rest : goal.decreases-loop-rest
decreases-loop-rest l = length l.rest
