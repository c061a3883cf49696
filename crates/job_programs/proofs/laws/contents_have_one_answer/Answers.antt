use Rattle.job_programs.proofs.FirstLemmas.{one-programs-by, one-first-by, none-refused-by}
use Rattle.job_programs.proofs.laws.contents_have_one_answer.Goals as goal

pub returns-clause-programs : goal.returns-clause-programs
returns-clause-programs c = one-programs-by c.one_answer.ensures.program

pub returns-clause-refused : goal.returns-clause-refused
returns-clause-refused c = one-first-by c.one_answer.ensures.program c.one_answer.ensures.refused c.one_answer.ensures.never_both

pub returns-clause-never_both : goal.returns-clause-never_both
returns-clause-never_both c = none-refused-by c.one_answer.ensures.program c.one_answer.ensures.never_both
