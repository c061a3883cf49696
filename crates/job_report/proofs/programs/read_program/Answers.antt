use Rattle.std.proofs.Common.{map, length}
use Rattle.std.proofs.lemmas.Result.{err_from_is_err_and}
use Rattle.toml.specs.View.{table_view}
use Rattle.job_report.specs.Field.{program_fields}
use Rattle.job_report.specs.Refusal.{refusals_of_names, place_of_program}
use Rattle.job_report.specs.Private.Fault.{TellsFirst}
use Rattle.job_report.proofs.Firsts.{tells_sixth_of, tells_seventh_of, tells_eighth, tells_name_behind_eight}
use Rattle.job_report.proofs.programs.read_program.Goals as goal

pub returns-in_err-drop-clause-wrong : goal.returns-in_err-drop-clause-wrong
returns-in_err-drop-clause-wrong c =
    let p = err_from_is_err_and c.from_residual-in_err-drop.result c.from_residual-in_err-drop.ensures.1 in
    rw (p.1, p.2) (tells_seventh_of _ _ _ _ _ _ _ _ _ _ c.in_ok-name.ensures.right c.in_ok-program.ensures.right c.in_ok-number.ensures.right
    c.in_ok-weight.ensures.right c.in_ok-coarser.ensures.right c.in_ok-drift.ensures.right c.in_err-drop.ensures.wrong)

pub returns-in_err-form-clause-wrong : goal.returns-in_err-form-clause-wrong
returns-in_err-form-clause-wrong c =
    let p = err_from_is_err_and c.from_residual-in_err-form.result c.from_residual-in_err-form.ensures.1 in
    rw (p.1, p.2) (tells_eighth _ _ _ _ _ _ _ _ _ _ c.in_ok-name.ensures.right c.in_ok-program.ensures.right c.in_ok-number.ensures.right
    c.in_ok-weight.ensures.right c.in_ok-coarser.ensures.right c.in_ok-drift.ensures.right c.in_ok-drop.ensures.right c.in_err-form.ensures.wrong)

pub returns-in_err-drift-clause-wrong : goal.returns-in_err-drift-clause-wrong
returns-in_err-drift-clause-wrong c =
    let p = err_from_is_err_and c.from_residual-in_err-drift.result c.from_residual-in_err-drift.ensures.1 in
    rw (p.1, p.2) (tells_sixth_of _ _ _ _ _ _ _ _ _ c.in_ok-name.ensures.right c.in_ok-program.ensures.right c.in_ok-number.ensures.right
    c.in_ok-weight.ensures.right c.in_ok-coarser.ensures.right c.in_err-drift.ensures.wrong)

pub returns-in_err-check_program_names-clause-wrong : goal.returns-in_err-check_program_names-clause-wrong
returns-in_err-check_program_names-clause-wrong c =
    let wrong : TellsFirst (refusals_of_names (place_of_program (length c.args.before.now)) (table_view c.args.table.now)
    (program_fields (map (λ program. program.number) c.args.before.now))) c.in_err-check_program_names.field-0.0 =
    c.in_err-check_program_names.ensures.wrong (map (λ program. program.number) c.args.before.now) in
    let p = err_from_is_err_and c.from_residual-in_err-check_program_names.result c.from_residual-in_err-check_program_names.ensures.1 in
    rw (p.1, p.2) (tells_name_behind_eight _ _ _ _ _ _ _ _ _ _ c.in_ok-name.ensures.right c.in_ok-program.ensures.right c.in_ok-number.ensures.right
    c.in_ok-weight.ensures.right c.in_ok-coarser.ensures.right c.in_ok-drift.ensures.right c.in_ok-drop.ensures.right
    c.in_ok-form.ensures.right wrong)
