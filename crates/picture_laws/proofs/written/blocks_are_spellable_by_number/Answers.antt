use Rattle.picture_laws.proofs.WrittenBlocks.{of_blocks, blocks-of}
use Rattle.picture_laws.proofs.written.blocks_are_spellable_by_number.Goals as goal

pub returns : goal.returns
returns c = record { spelled = of_blocks; no_other = blocks-of }
