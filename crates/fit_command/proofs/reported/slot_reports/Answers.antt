use Rattle.fit_command.proofs.Reports.{reported_all}
use Rattle.fit_command.proofs.reported.slot_reports.Goals as goal

pub returns : goal.returns
returns c = reported_all c.args.slots.now c.args.verdicts.now c.loop-at.at c.loop-at.reports c.loop-at-test.false c.loop-at.invariant
