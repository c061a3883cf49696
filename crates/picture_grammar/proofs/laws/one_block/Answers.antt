use Rattle.picture_grammar.proofs.LocalLaws.{block-one}
use Rattle.picture_grammar.proofs.laws.one_block.Goals as goal

pub returns : goal.returns
returns c = block-one
