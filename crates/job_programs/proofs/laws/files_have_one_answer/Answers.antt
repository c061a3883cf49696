use Rattle.job_programs.proofs.FirstLemmas.{one-programs-on, one-first-on, none-refused-on}
use Rattle.job_programs.proofs.MissingLemmas.{one-missing, missing-no-programs, missing-not-refused}
use Rattle.job_programs.proofs.laws.files_have_one_answer.Goals as goal

pub returns-clause-programs : goal.returns-clause-programs
returns-clause-programs c = one-programs-on c.one_answer.ensures.program

pub returns-clause-refused : goal.returns-clause-refused
returns-clause-refused c = one-first-on c.one_answer.ensures.program c.one_answer.ensures.refused c.one_answer.ensures.never_both

pub returns-clause-never_both : goal.returns-clause-never_both
returns-clause-never_both c = none-refused-on c.one_answer.ensures.program c.one_answer.ensures.never_both

pub returns-clause-missing : goal.returns-clause-missing
returns-clause-missing c = one-missing

pub returns-clause-missing_without_programs : goal.returns-clause-missing_without_programs
returns-clause-missing_without_programs c = missing-no-programs

pub returns-clause-missing_without_refusal : goal.returns-clause-missing_without_refusal
returns-clause-missing_without_refusal c = missing-not-refused c.one_answer.ensures.program c.one_answer.ensures.never_both
