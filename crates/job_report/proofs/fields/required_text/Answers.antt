use Rattle.job_report.specs.Field.{required, is_text, is_some_text}
use Rattle.job_report.proofs.FieldLaws.{wrong_tells, right_tells}
use Rattle.job_report.proofs.fields.required_text.Goals as goal

pub returns-in-Ok-clause-right : goal.returns-in-Ok-clause-right
returns-in-Ok-clause-right c = right_tells _ _ _ _ c.in-Some.ensures c.in-Ok.ensures.right

pub returns-in-Err-clause-wrong : goal.returns-in-Err-clause-wrong
returns-in-Err-clause-wrong c = wrong_tells _ _ (required c.args.name.now is_text is_some_text) _ c.in-Err.wrong _ c.in-Some.ensures c.in-Err.ensures.wrong c.wrong_fault.ensures
