use Rattle.std.proofs.Common.{false, true, sym, ◌∙◌, ap}
use Rattle.requantiser.specs.Private.Walk.{mapped_code}
use Rattle.requantiser.proofs.MappedCodes.{mapped_code-is, one_mapped}
use Rattle.requantiser.proofs.step.mapped.Goals as goal

pub returns-then-q_scale_type-clause-value : goal.returns-then-q_scale_type-clause-value
returns-then-q_scale_type-clause-value c =
    one_mapped true c.args.m c.args.code c.map_code.result (mapped_code true c.args.m c.args.code) c.map_code.ensures (mapped_code-is true c.args.m c.args.code)
    ∙ ap (λ t. mapped_code t c.args.m c.args.code) (sym c.if-q_scale_type.true)

pub returns-else-q_scale_type-clause-value : goal.returns-else-q_scale_type-clause-value
returns-else-q_scale_type-clause-value c =
    one_mapped false c.args.m c.args.code c.mapped_in_steps.result (mapped_code false c.args.m c.args.code) c.mapped_in_steps.ensures (mapped_code-is false c.args.m c.args.code)
    ∙ ap (λ t. mapped_code t c.args.m c.args.code) (sym c.if-q_scale_type.false)
