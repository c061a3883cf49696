use Rattle.psi_tables.proofs.PatFunction.{pat_is, pat_made}
use Rattle.psi_tables.proofs.laws.pat_by_function.Goals as goal

pub returns : goal.returns
returns c = λ section programs. (pat_is section programs, λ says. pat_made section programs says)
