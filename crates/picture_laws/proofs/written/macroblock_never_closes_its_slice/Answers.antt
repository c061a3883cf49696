use Rattle.picture_laws.proofs.WrittenSlice.{macroblock-closes}
use Rattle.picture_laws.proofs.written.macroblock_never_closes_its_slice.Goals as goal

pub returns : goal.returns
returns c = macroblock-closes
