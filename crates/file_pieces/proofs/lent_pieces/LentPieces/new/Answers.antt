use Rattle.file_pieces.proofs.Told.{told_as}
use Rattle.file_pieces.proofs.lent_pieces.LentPieces.new.Goals as goal

pub returns-clause-told : goal.returns-clause-told
returns-clause-told g c files versions same are = told_as (g.K.Shelf.files c.args.shelf.now) c.args.lanes.now _ files versions same are
