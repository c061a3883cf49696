use Rattle.picture_grammar.proofs.MacroblockLaws.{exact-slice}
use Rattle.picture_grammar.proofs.laws.slices_are_exact.Goals as goal

pub returns : goal.returns
returns c = exact-slice
