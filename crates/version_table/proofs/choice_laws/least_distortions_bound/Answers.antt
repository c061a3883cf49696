use Rattle.version_table.proofs.Least.{least_distortions-le}
use Rattle.version_table.proofs.choice_laws.least_distortions_bound.Goals as goal

pub returns : goal.returns
returns c = least_distortions-le
