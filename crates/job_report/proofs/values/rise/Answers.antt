use Rattle.std.proofs.Common.{◌∙◌, sym}
use Rattle.job_report.proofs.Numbers.{rises-short}
use Rattle.job_report.proofs.values.rise.Goals as goal

pub returns : goal.returns
returns c = rises-short c.loop-rest.rest.now c.in_default.len_below ∙ sym c.loop-rest.invariant
