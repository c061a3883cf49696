use Rattle.std.proofs.Common.{Bool, sym, subst, if◌then◌else◌}
use Rattle.picture_grammar.specs.Motion.{motion_vectors}
use Rattle.macroblock_reader.specs.Private.Answers.{Answers, answer_as}
use Rattle.macroblock_reader.proofs.motion.read_vectors.Goals as goal

pub returns-else-format : goal.returns-else-format
returns-else-format g c =
    let format = c.args.format in
    let items = c.read_list-else-format.new.into.items in
    subst (λ (dual : Bool). Answers ⊥ (motion_vectors c.args.codes (record { count = if format.two then 2 else 1; select = format.select; dual = dual }))
    (answer_as (λ _. items) c.read_list-else-format.result) c.args.from.now c.read_list-else-format.new.from) (sym c.if-format.false) c.read_list-else-format.ensures
