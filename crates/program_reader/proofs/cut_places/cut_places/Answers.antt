use Rattle.program_reader.proofs.CutLemmas.{cuts_fit}
use Rattle.program_reader.proofs.cut_places.cut_places.Goals as goal

pub returns-clause-fit : goal.returns-clause-fit
returns-clause-fit c = λ es units is. (cuts_fit es units is).0

pub returns-clause-few : goal.returns-clause-few
returns-clause-few c = λ es units is. (cuts_fit es units is).1
