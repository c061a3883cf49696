use Rattle.picture_laws.proofs.WrittenMacroblock.{anywhere-macroblock}
use Rattle.picture_laws.proofs.written.macroblock_of_spellable_parts_is_read.Goals as goal

pub returns : goal.returns
returns c = λ coding first columns_left m following parts. (anywhere-macroblock coding first columns_left m parts).before following
