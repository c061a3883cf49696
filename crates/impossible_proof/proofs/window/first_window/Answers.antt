use Rattle.impossible_proof.proofs.FirstWindow.{none_answers}
use Rattle.impossible_proof.proofs.window.first_window.Goals as goal

pub returns-in-None : goal.returns-in-None
returns-in-None c = none_answers c.args.table.now c.args.needs.now c.requires.valid c.requires.needs c.in-None.ensures
