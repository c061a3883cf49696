use Rattle.picture_laws.proofs.WrittenMacroblock.{parts-of_macroblock}
use Rattle.picture_laws.proofs.written.spelled_macroblock_has_spellable_parts.Goals as goal

pub returns : goal.returns
returns c = parts-of_macroblock
