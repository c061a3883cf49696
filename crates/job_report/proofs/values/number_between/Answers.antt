use Rattle.job_report.proofs.Stated.{not_between}
use Rattle.job_report.proofs.values.number_between.Goals as goal

pub returns-in-Err-clause-none : goal.returns-in-Err-clause-none
returns-in-Err-clause-none c = not_between c.args.least c.args.most _ c.in-Err._wrong c.in-Err.ensures.wrong
