use Rattle.picture_grammar.proofs.HeaderLaws.{exact-head}
use Rattle.picture_grammar.proofs.laws.heads_are_exact.Goals as goal

pub returns : goal.returns
returns c = exact-head
