use Rattle.picture_grammar.proofs.HeaderLaws.{exact-picture_unit}
use Rattle.picture_grammar.proofs.laws.units_are_exact.Goals as goal

pub returns : goal.returns
returns c = exact-picture_unit
