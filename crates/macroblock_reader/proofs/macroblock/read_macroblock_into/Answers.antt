use Rattle.picture_grammar.specs.Macroblock.{macroblock}
use Rattle.picture_grammar.proofs.MacroblockLaws.{exact-macroblock}
use Rattle.macroblock_reader.specs.declared.fault.SliceFault.TheVariants as fault
use Rattle.shelf_io.specs.declared.fault.Fault.TheVariants.{Failed, Missing}
use Rattle.macroblock_reader.proofs.Macroblocks.{whole-ok, whole-refused, whole-exact, whole-fault}
use Rattle.macroblock_reader.proofs.macroblock.read_macroblock_into.Goals as goal

pub returns-clause-ok : goal.returns-clause-ok
returns-clause-ok g c = whole-ok (macroblock c.args.coding.now c.args.first c.args.columns_left) c.read_parts.new.into c.args.from.now
    c.read_parts.new.from c.read_parts.result c.read_parts.ensures.answers

pub returns-clause-exact : goal.returns-clause-exact
returns-clause-exact g c = λ m rest comes.
    whole-exact (macroblock c.args.coding.now c.args.first c.args.columns_left) c.read_parts.new.into c.args.from.now c.read_parts.new.from
    (exact-macroblock c.args.coding.now c.args.first c.args.columns_left) m rest comes c.read_parts.result c.read_parts.ensures.answers

pub returns-clause-refused : goal.returns-clause-refused
returns-clause-refused g c = whole-refused (macroblock c.args.coding.now c.args.first c.args.columns_left) c.read_parts.new.into c.args.from.now
    c.read_parts.new.from c.read_parts.result c.read_parts.ensures.answers

pub returns-clause-memory : goal.returns-clause-memory
returns-clause-memory g c = λ is. c.read_parts.ensures.answers.memory
    (whole-fault c.read_parts.new.into c.read_parts.result fault.OutOfMemory is)

pub returns-clause-failed : goal.returns-clause-failed
returns-clause-failed g c = λ is. c.read_parts.ensures.answers.failed
    (whole-fault c.read_parts.new.into c.read_parts.result (fault.Outside Failed) is)

pub returns-clause-missing : goal.returns-clause-missing
returns-clause-missing g c = λ is. c.read_parts.ensures.answers.missing
    (whole-fault c.read_parts.new.into c.read_parts.result (fault.Outside Missing) is)
