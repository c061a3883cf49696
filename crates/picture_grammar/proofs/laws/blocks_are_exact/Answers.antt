use Rattle.picture_grammar.proofs.PictureLaws.{exact-block}
use Rattle.picture_grammar.proofs.laws.blocks_are_exact.Goals as goal

pub returns : goal.returns
returns c = exact-block
