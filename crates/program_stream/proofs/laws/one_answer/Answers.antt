use Rattle.program_stream.proofs.OneAnswer.{one_split, one_split_fault, split_or_refused}
use Rattle.program_stream.proofs.laws.one_answer.Goals as goal

pub returns-clause-split : goal.returns-clause-split
returns-clause-split c file ids one other cut other_cut is is_other = one_split file ids one other cut other_cut is is_other

pub returns-clause-refused : goal.returns-clause-refused
returns-clause-refused c file ids one other some some_other is is_other = one_split_fault file ids one other some some_other is is_other

pub returns-clause-never_both : goal.returns-clause-never_both
returns-clause-never_both c file ids demuxed cut fault is refused = split_or_refused file ids demuxed cut fault is refused
