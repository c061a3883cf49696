use Rattle.picture_grammar.proofs.MacroblockLaws.{exact-macroblock}
use Rattle.picture_grammar.proofs.laws.macroblocks_are_exact.Goals as goal

pub returns : goal.returns
returns c = exact-macroblock
