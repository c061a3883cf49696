use Rattle.std.proofs.Common.{arith}
use Rattle.version_table.proofs.Greatest.{greatest_together}
use Rattle.version_table.proofs.choice_laws.few_units_cost_little.Goals as goal

pub returns : goal.returns
returns c = λ slot units valid few. omega (arith, greatest_together slot units valid, few)
