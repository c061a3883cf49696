use Rattle.job_programs.proofs.AloneLemmas.{alone-not-refused-on, one-alone-on, one-alone-refusal-on}
use Rattle.job_programs.proofs.laws.lone_program_has_one_answer.Goals as goal

pub returns-clause-program : goal.returns-clause-program
returns-clause-program c = one-alone-on c.one_answer.ensures.program

pub returns-clause-refused : goal.returns-clause-refused
returns-clause-refused c = one-alone-refusal-on c.one_answer.ensures.program c.one_answer.ensures.refused c.one_answer.ensures.never_both

pub returns-clause-never_both : goal.returns-clause-never_both
returns-clause-never_both c = alone-not-refused-on c.one_answer.ensures.program c.one_answer.ensures.never_both
