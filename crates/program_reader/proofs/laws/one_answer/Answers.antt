use Rattle.program_reader.proofs.OneProgram as answers
use Rattle.program_reader.proofs.laws.one_answer.Goals as goal

pub returns-clause-taken_out : goal.returns-clause-taken_out
returns-clause-taken_out c = λ form file number drop one other. answers.one_taken_out form file number drop one other

pub returns-clause-program : goal.returns-clause-program
returns-clause-program c = λ form file number drop start one other. answers.one_program form file number drop start one other

pub returns-clause-refused : goal.returns-clause-refused
returns-clause-refused c = λ form file number drop one other. answers.one_refusal form file number drop one other

pub returns-clause-never_both : goal.returns-clause-never_both
returns-clause-never_both c = λ form file number drop start program fault. answers.never_both form file number drop start program fault
