use Rattle.job_programs.proofs.ProbeLaws.{one-probed-on, one-probe-refusal-on, probed-not-refused-on}
use Rattle.job_programs.proofs.laws.probed_file_has_one_answer.Goals as goal

pub returns-clause-program : goal.returns-clause-program
returns-clause-program c = one-probed-on c.one_answer.ensures.program

pub returns-clause-refused : goal.returns-clause-refused
returns-clause-refused c = one-probe-refusal-on c.one_answer.ensures.program c.one_answer.ensures.refused c.one_answer.ensures.never_both

pub returns-clause-never_both : goal.returns-clause-never_both
returns-clause-never_both c = probed-not-refused-on c.one_answer.ensures.program c.one_answer.ensures.never_both
