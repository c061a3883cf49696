use Rattle.psi_tables.proofs.GoodSection.{alone, in_pieces}
use Rattle.psi_tables.proofs.laws.a_section_in_any_pieces.Goals as goal

pub returns-clause-alone : goal.returns-clause-alone
returns-clause-alone c = alone

pub returns-clause-pieces : goal.returns-clause-pieces
returns-clause-pieces c = in_pieces
