use Rattle.certificate_checker.proofs.FreeLeast.{least_is}
use Rattle.certificate_checker.proofs.tally.least_of.Goals as goal

pub returns : goal.returns
returns c = least_is c.args.table.now c.args.at.unit c.unit_at.result.now c.unit_cost.result c.unit_at.ensures c.unit_cost.ensures
