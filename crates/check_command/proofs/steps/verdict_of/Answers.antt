use Rattle.check_command.proofs.CheckSteps.{verdict_accepted, verdict_refused}
use Rattle.check_command.proofs.steps.verdict_of.Goals as goal

pub returns-in-Ok-check : goal.returns-in-Ok-check
returns-in-Ok-check c =
    verdict_accepted c.args.table.now c.args.cert.now c.in-Ok-check.bound c.end_with.result c.in-Ok-check.ensures.faultless c.in-Ok-check.ensures.sound c.end_with.ensures c.in-Ok-check.ensures.bound

pub returns : goal.returns
returns c =
    verdict_refused c.args.table.now c.args.cert.now c.in-Err.fault c.cert_report.result c.end_with-in-Err.result c.in-Err.ensures.fault c.end_with-in-Err.ensures c.cert_report.ensures
