use Rattle.layer_laws.proofs.PesPieces.{gathered_again, pieces_carry}
use Rattle.layer_laws.proofs.pes.packets_gathered_again.Goals as goal

pub returns-clause-gathered : goal.returns-clause-gathered
returns-clause-gathered c = gathered_again

pub returns-clause-pieces : goal.returns-clause-pieces
returns-clause-pieces c = pieces_carry
