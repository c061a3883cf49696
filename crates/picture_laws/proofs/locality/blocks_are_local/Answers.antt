use Rattle.picture_grammar.proofs.LocalLaws.{local-block}
use Rattle.picture_laws.proofs.locality.blocks_are_local.Goals as goal

pub returns : goal.returns
returns c = local-block
