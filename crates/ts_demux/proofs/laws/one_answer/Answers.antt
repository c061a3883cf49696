use Rattle.ts_demux.proofs.OneAnswer as answers
use Rattle.ts_demux.proofs.laws.one_answer.Goals as goal

pub returns-clause-demuxed : goal.returns-clause-demuxed
returns-clause-demuxed c = λ file program drop one other. answers.one_demuxed file program drop one other

pub returns-clause-refused : goal.returns-clause-refused
returns-clause-refused c = λ file program drop one other. answers.one_refusal file program drop one other

pub returns-clause-never_both : goal.returns-clause-never_both
returns-clause-never_both c = λ file program drop demuxed fault. answers.never_both file program drop demuxed fault
