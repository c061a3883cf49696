use Rattle.fit_command.proofs.Reports.{ReportedTo}
use Rattle.fit_command.proofs.reported.slot_reports.Given as goal

abbrev pub invariant-loop-at : goal.invariant-loop-at
invariant-loop-at l = ReportedTo l.slots l.verdicts l.at l.reports
