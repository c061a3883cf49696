use Rattle.job_report.proofs.Floats.{report_without_float}
use Rattle.job_report.proofs.line.report_text.Goals as goal

pub line_of-requires : goal.line_of-requires
line_of-requires c = rw c.in_ok-value.ensures (report_without_float c.args.report.now)
