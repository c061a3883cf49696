use Rattle.picture_laws.proofs.WrittenMacroblock.{anywhere-macroblock, parts-of_macroblock}
use Rattle.macroblock_writer.proofs.Writable.{spelled_can_be_written}
use Rattle.macroblock_writer.proofs.macroblock.write_macroblock.Goals as goal

pub write_parts-requires-clause-fits : goal.write_parts-requires-clause-fits
write_parts-requires-clause-fits g c = spelled_can_be_written c.args.coding.now c.requires.spelled.0 c.requires.spelled.1 c.args.macroblock.now c.requires.spelled.2

pub returns-clause-read_back : goal.returns-clause-read_back
returns-clause-read_back g c = λ first columns_left following s.
    (anywhere-macroblock c.args.coding.now first columns_left c.args.macroblock.now
    (parts-of_macroblock c.args.coding.now first columns_left c.args.macroblock.now s.bits s.rest s.spelled)).before following
