use Rattle.std.proofs.Common.{subst, sym}
use Rattle.job_report.specs.declared.report.Report.{Report}
use Rattle.impossible_command.specs.Verdict.{IsVerdict}
use Rattle.impossible_command.proofs.Shown.{missed_one, report_is, scheduled_one}
use Rattle.impossible_command.proofs.verdicts.verdict.Goals as goal

pub returns-then-is_scheduled : goal.returns-then-is_scheduled
returns-then-is_scheduled c =
    scheduled_one c.smallest_choice_is_one.ensures c.args.table.now c.in_ok-choice.choice c.in_ok-choice.ensures.smallest (c.is_scheduled.ensures.0 c.if-is_scheduled.true)

pub returns : goal.returns
returns c =
    let table = c.args.table.now in
    subst (λ (report : Report). IsVerdict table report) (sym c.verdict_by.ensures)
    (report_is table c.in_ok-found.found (λ from due has. c.nothing_is_scheduled.ensures table from due c.requires has)
    (missed_one c.smallest_choice_is_one.ensures table c.in_ok-choice.choice c.in_ok-choice.ensures.smallest
    (λ scheduled. let yes = c.is_scheduled.ensures.1 scheduled in let no = c.if-is_scheduled.false in cc))
    c.in_ok-found.ensures.exact)
