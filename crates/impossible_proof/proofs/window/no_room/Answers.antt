use Rattle.impossible_proof.proofs.Impossible.{none_where_scheduled}
use Rattle.impossible_proof.proofs.window.no_room.Goals as goal

pub returns-clause-scheduled : goal.returns-clause-scheduled
returns-clause-scheduled c = λ choice fits scheduled. none_where_scheduled c.args.table.now c.first_window.result c.requires c.first_window.ensures choice fits scheduled
