use Rattle.ts_demux.proofs.PassSteps.{told_seen, told_all}
use Rattle.ts_demux.proofs.laws.read_as_told.Goals as goal

pub returns-clause-front : goal.returns-clause-front
returns-clause-front c = told_seen

pub returns-clause-whole : goal.returns-clause-whole
returns-clause-whole c = told_all
