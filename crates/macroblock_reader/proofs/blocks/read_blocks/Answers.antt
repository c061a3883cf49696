use Rattle.std.proofs.Common.{Bool, sym, subst}
use Rattle.picture_grammar.specs.Macroblock.{blocks}
use Rattle.macroblock_reader.specs.Private.Answers.{Answers, answer_as}
use Rattle.macroblock_reader.proofs.blocks.read_blocks.Goals as goal

pub returns-else-kind : goal.returns-else-kind
returns-else-kind g c =
    let kind = c.args.kind in
    let into = c.read_each-else-kind.new.into in
    subst (λ (intra : Bool). Answers ⊥ (blocks c.args.coding.now (record { quant = kind.quant; forward = kind.forward; backward = kind.backward; pattern = kind.pattern; intra = intra }) c.args.pattern)
    (answer_as (λ _. into) c.read_each-else-kind.result) c.args.from.now c.read_each-else-kind.new.from) (sym c.if-kind.false) c.read_each-else-kind.ensures
