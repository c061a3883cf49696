use Rattle.std.proofs.Common.{sym}
use Rattle.job_files.proofs.text.apart_from.Goals as goal

pub returns-in-None-clause-apart : goal.returns-in-None-clause-apart
returns-in-None-clause-apart c = sym c.in-None.ensures

pub returns-in-Some-clause-stop : goal.returns-in-Some-clause-stop
returns-in-Some-clause-stop c = sym c.in-Some.ensures
