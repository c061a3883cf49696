use Rattle.picture_grammar.proofs.GrammarLaws.{exact-bind, exact-done}
use Rattle.picture_grammar.proofs.MacroblockLaws.{exact-quantiser_scale_code, exact-slice_info}
use Rattle.macroblock_reader.specs.SliceHead.{slice_head}
use Rattle.macroblock_reader.proofs.Closing.{next-exact}
use Rattle.macroblock_reader.proofs.head.read_slice_head.Goals as goal

pub returns-clause-exact : goal.returns-clause-exact
returns-clause-exact g c = λ value rest comes.
    next-exact slice_head (λ v. v) c.args.from.now c.read_head.new.from (exact-bind _ _ exact-quantiser_scale_code (λ code. exact-bind _ _ exact-slice_info (λ info. exact-done _))) value rest comes
    c.read_head.result c.read_head.ensures.ok c.read_head.ensures.refused
