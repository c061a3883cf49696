use Rattle.picture_grammar.specs.Slice.{slice}
use Rattle.picture_grammar.proofs.MacroblockLaws.{exact-slice}
use Rattle.macroblock_reader.proofs.Closing.{next-exact}
use Rattle.macroblock_reader.proofs.slice.read_slice.Goals as goal

pub returns-clause-exact : goal.returns-clause-exact
returns-clause-exact g c = λ value rest comes.
    next-exact (slice c.args.picture.seq.now c.args.picture.coding.now c.args.row) (λ v. v) c.args.from.now c.read_whole.new.from (exact-slice c.args.picture.seq.now c.args.picture.coding.now c.args.row) value rest comes
    c.read_whole.result c.read_whole.ensures.ok c.read_whole.ensures.refused
