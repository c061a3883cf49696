use Rattle.std.proofs.Common.{◌≡◌, [], map, length, sym}
use Rattle.toml.specs.View.{view, table_view}
use Rattle.std.proofs.lemmas.Result.{err_from_is_err_and}
use Rattle.job_report.specs.Field.{program_fields}
use Rattle.job_report.specs.Refusal.{refusals_of_table, place_of_program}
use Rattle.job_report.specs.Private.Fault.{TellsFirst}
use Rattle.job_report.specs.Private.Programs.{numbers_of_programs}
use Rattle.job_report.proofs.ProgramLaws.{so_far-table, so_far-other, so_far-wrong, within-view, at-view}
use Rattle.job_report.proofs.programs.read_programs.Goals as goal
use Rattle.job_report.proofs.programs.read_programs.Goals.{in-Some+in_ok-program+in_ok-push, in_default}

pub loop-value-preserved : goal.loop-value-preserved
loop-value-preserved c =
    let within = within-view c.args.values.now c.loop-value.value-index c.loop-value-test.true in
    let at = at-view c.args.values.now c.loop-value.value-index c.value-item.result c.loop-value-test.true c.value-item.is in
    elim c.match-as_table.branch [
      | in-Some+in_ok-program+in_ok-push w ↦
          let right : refusals_of_table (place_of_program (length c.loop-value.programs)) (table_view w.in-Some.table.now) (program_fields (numbers_of_programs c.loop-value.programs)) ≡ [] =
          rw (← w.as_slice.ensures) w.in_ok-program.ensures.right in
          rw (w.programs-is, w.in_ok-push.ensures.ok) (
          so_far-table (map view c.args.values.now) c.loop-value.value-index (view c.value-item.result) (table_view w.in-Some.table.now) c.loop-value.programs w.in_ok-program.program
          c.loop-value.invariant within at (sym w.in-Some.ensures) right w.in_ok-program.ensures.program)
      | in_default w ↦
          rw w.programs-is (so_far-other (map view c.args.values.now) c.loop-value.value-index
          (view c.value-item.result) c.loop-value.programs c.loop-value.invariant within at (sym w.in_default.ensures))
    ]

pub returns-in_err-program-clause-wrong : goal.returns-in_err-program-clause-wrong
returns-in_err-program-clause-wrong c =
    let p = err_from_is_err_and c.from_residual.result c.from_residual.ensures.1 in
    let within = within-view c.args.values.now c.loop-value.value-index c.loop-value-test.true in
    let at = at-view c.args.values.now c.loop-value.value-index c.value-item.result c.loop-value-test.true c.value-item.is in
    let wrong : TellsFirst (refusals_of_table (place_of_program (length c.loop-value.programs)) (table_view c.in-Some.table.now)
    (program_fields (numbers_of_programs c.loop-value.programs))) c.in_err-program.field-0.0 =
    rw (← c.as_slice.ensures) c.in_err-program.ensures.wrong in
    rw (p.1, p.2) (
    so_far-wrong (map view c.args.values.now) c.loop-value.value-index (view c.value-item.result) (table_view c.in-Some.table.now) c.loop-value.programs c.in_err-program.field-0.0
    c.loop-value.invariant within at (sym c.in-Some.ensures) wrong)
