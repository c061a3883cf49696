use Rattle.job_report.specs.Field.{optional_field, is_integer, is_array_of, are_numbers}
use Rattle.job_report.proofs.FieldLaws.{wrong_tells, right_tells}
use Rattle.job_report.proofs.fields.optional_numbers.Goals as goal

pub returns-in-Ok-clause-right : goal.returns-in-Ok-clause-right
returns-in-Ok-clause-right g c = right_tells _ _ _ _ c.in-Some.ensures c.in-Ok.ensures.right

pub returns-in-Err-clause-wrong : goal.returns-in-Err-clause-wrong
returns-in-Err-clause-wrong g c = wrong_tells _ _ (optional_field c.args.name.now (is_array_of is_integer)
    (are_numbers g.row.COUNT c.args.least c.args.most)) _ c.in-Err.wrong _ c.in-Some.ensures c.in-Err.ensures.wrong c.wrong_fault.ensures
