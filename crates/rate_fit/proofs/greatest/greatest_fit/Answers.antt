use Rattle.rate_fit.proofs.GreatestSaid.{greatest_is}
use Rattle.rate_fit.proofs.greatest.greatest_fit.Goals as goal

pub returns : goal.returns
returns c = λ table are. greatest_is c.verdict_is_one.ensures table c.args.slots.now c.args.verdicts.now c.greatest_said.result c.requires are c.greatest_said.ensures
