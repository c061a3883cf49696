use Rattle.psi_tables.proofs.PmtFunction.{pmt_is, pmt_made}
use Rattle.psi_tables.proofs.laws.pmt_by_function.Goals as goal

pub returns : goal.returns
returns c = λ section program. (pmt_is section program, λ says. pmt_made section program says.0 says.1)
