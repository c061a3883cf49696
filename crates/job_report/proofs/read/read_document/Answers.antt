use Rattle.std.proofs.Common.{[]}
use Rattle.std.proofs.lemmas.Result.{err_from_is_err_and}
use Rattle.toml.specs.View.{table_view}
use Rattle.job_report.specs.Refusal.{programs_in, refusals_of_programs}
use Rattle.job_report.specs.Private.Fault.{TellsFirst}
use Rattle.job_report.proofs.Firsts.{tells_here, tells_fourth, tells_fifth, tells_sixth, tells_name, tells_behind}
use Rattle.job_report.proofs.read.read_document.Goals as goal

pub returns-in_err-nodes-clause-wrong : goal.returns-in_err-nodes-clause-wrong
returns-in_err-nodes-clause-wrong c =
    let p = err_from_is_err_and c.from_residual-in_err-nodes.result c.from_residual-in_err-nodes.ensures.1 in
    rw (p.1, p.2) (tells_here _ _ _ (tells_fourth _ _ _ _ _ _ _ c.in_ok-slot.ensures.right c.in_ok-start.ensures.right c.in_ok-stream_id.ensures.right c.in_err-nodes.ensures.wrong))

pub returns-in_err-evaluations-clause-wrong : goal.returns-in_err-evaluations-clause-wrong
returns-in_err-evaluations-clause-wrong c =
    let p = err_from_is_err_and c.from_residual-in_err-evaluations.result c.from_residual-in_err-evaluations.ensures.1 in
    rw (p.1, p.2) (tells_here _ _ _ (tells_fifth _ _ _ _ _ _ _ _ c.in_ok-slot.ensures.right c.in_ok-start.ensures.right
    c.in_ok-stream_id.ensures.right c.in_ok-nodes.ensures.right c.in_err-evaluations.ensures.wrong))

pub returns-in_err-tables-clause-wrong : goal.returns-in_err-tables-clause-wrong
returns-in_err-tables-clause-wrong c =
    let p = err_from_is_err_and c.from_residual-in_err-tables.result c.from_residual-in_err-tables.ensures.1 in
    rw (p.1, p.2) (tells_here _ _ _ (tells_sixth _ _ _ _ _ _ _ _ c.in_ok-slot.ensures.right c.in_ok-start.ensures.right
    c.in_ok-stream_id.ensures.right c.in_ok-nodes.ensures.right c.in_ok-evaluations.ensures.right c.in_err-tables.ensures.wrong))

pub returns-in_err-check_job_names-clause-wrong : goal.returns-in_err-check_job_names-clause-wrong
returns-in_err-check_job_names-clause-wrong c =
    let p = err_from_is_err_and c.from_residual-in_err-check_job_names.result c.from_residual-in_err-check_job_names.ensures.1 in
    rw (p.1, p.2) (tells_here _ _ _ (tells_name _ _ _ _ _ _ _ _ c.in_ok-slot.ensures.right c.in_ok-start.ensures.right c.in_ok-stream_id.ensures.right
    c.in_ok-nodes.ensures.right c.in_ok-evaluations.ensures.right c.in_ok-tables.ensures.right c.in_err-check_job_names.ensures.wrong))

pub returns-in_err-programs-clause-wrong : goal.returns-in_err-programs-clause-wrong
returns-in_err-programs-clause-wrong c =
    let p = err_from_is_err_and c.from_residual-in_err-programs.result c.from_residual-in_err-programs.ensures.1 in
    let wrong : TellsFirst (refusals_of_programs [] (programs_in (table_view c.args.document.now))) c.in_err-programs.field-0.0 =
    rw c.in_ok-tables.ensures.tables c.in_err-programs.ensures.wrong in
    rw (p.1, p.2) (tells_behind _ _ _ _ _ _ _ _ _ c.in_ok-slot.ensures.right c.in_ok-start.ensures.right c.in_ok-stream_id.ensures.right
    c.in_ok-nodes.ensures.right c.in_ok-evaluations.ensures.right c.in_ok-tables.ensures.right c.in_ok-check_job_names.ensures.right wrong)
