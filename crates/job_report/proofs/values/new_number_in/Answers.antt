use Rattle.std.proofs.Common.{◌∙◌, sym}
use Rattle.job_report.proofs.Numbers.{number-new, number-taken}
use Rattle.job_report.proofs.values.new_number_in.Goals as goal

pub returns-then-is_taken-clause-wrong : goal.returns-then-is_taken-clause-wrong
returns-then-is_taken-clause-wrong c =
    number-taken _ c.in-Ok.stated c.args.before.now c.in-Ok.ensures.number c.in-Ok.ensures.right (sym c.is_taken.ensures ∙ c.if-is_taken.true)

pub returns-else-is_taken-clause-right : goal.returns-else-is_taken-clause-right
returns-else-is_taken-clause-right c =
    number-new _ c.in-Ok.stated c.args.before.now c.in-Ok.ensures.number c.in-Ok.ensures.right (sym c.is_taken.ensures ∙ c.if-is_taken.false)
