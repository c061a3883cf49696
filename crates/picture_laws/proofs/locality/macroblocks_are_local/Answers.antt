use Rattle.picture_laws.proofs.LocalHeaders.{local-macroblock}
use Rattle.picture_laws.proofs.locality.macroblocks_are_local.Goals as goal

pub returns : goal.returns
returns c = local-macroblock
