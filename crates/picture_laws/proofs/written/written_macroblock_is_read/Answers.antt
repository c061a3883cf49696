use Rattle.picture_laws.proofs.WrittenMacroblock.{anywhere-macroblock, parts-of_macroblock}
use Rattle.picture_laws.proofs.written.written_macroblock_is_read.Goals as goal

pub returns : goal.returns
returns c = λ coding first columns_left m bits rest following s.
    (anywhere-macroblock coding first columns_left m (parts-of_macroblock coding first columns_left m bits rest s)).before following
