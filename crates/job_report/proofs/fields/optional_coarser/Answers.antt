use Rattle.std.proofs.Common.{codes}
use Rattle.job_report.specs.Field.{optional_field, is_integer, is_array_of, are_coarser}
use Rattle.job_report.proofs.FieldLaws.{wrong_tells, right_tells}
use Rattle.job_report.proofs.fields.optional_coarser.Goals as goal

pub returns-in-Ok-clause-right : goal.returns-in-Ok-clause-right
returns-in-Ok-clause-right c = right_tells _ _ _ _ c.in-Some.ensures c.in-Ok.ensures.right

pub returns-in-Err-clause-wrong : goal.returns-in-Err-clause-wrong
returns-in-Err-clause-wrong c = wrong_tells _ _ (optional_field (codes "coarser") (is_array_of is_integer) are_coarser) _ c.in-Err.wrong _
    c.in-Some.ensures c.in-Err.ensures.wrong c.wrong_fault.ensures
