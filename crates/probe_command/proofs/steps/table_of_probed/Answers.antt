use Rattle.std.proofs.Common.{List, refl, sym, subst}
use Rattle.job_report.specs.declared.limits.TheConstants.{COARSER_DEFAULT, START_DEFAULT}
use Rattle.program_reader.specs.declared.unit_sizes.UnitSizes.{UnitSizes}
use Rattle.program_reader.specs.Sizes.{AreProgramSizes}
use Rattle.probe_command.proofs.ProbedTable.{is_text_table}
use Rattle.probe_command.proofs.steps.table_of_probed.Goals as goal

pub row_of_passed_program-requires-clause-read : goal.row_of_passed_program-requires-clause-read
row_of_passed_program-requires-clause-read c =
    let (number, program, probed, off) = c.requires in (
      START_DEFAULT,
      program,
      COARSER_DEFAULT,
      probed.read_for.read,
      off.read_off,
      subst (λ (sizes : List UnitSizes). AreProgramSizes program COARSER_DEFAULT sizes) (sym c.as_slice.ensures) off.are_sizes,
    )

pub returns-clause-table : goal.returns-clause-table
returns-clause-table c = λ program off. record {
  slot = refl;
  nodes = refl;
  evaluations = refl;
  row = c.in_ok-row.row;
  is_row = c.in_ok-row.ensures program COARSER_DEFAULT off.read_off
      (subst (λ (sizes : List UnitSizes). AreProgramSizes program COARSER_DEFAULT sizes) (sym c.as_slice.ensures) off.are_sizes);
  alone = c.in_ok-programs.ensures;
}

pub returns-clause-text : goal.returns-clause-text
returns-clause-text c =
    let (number, program, probed, off) = c.requires in
    is_text_table c.row_is_valid.ensures number program c.in_ok-row.row c.in_ok-programs.programs probed
    (c.in_ok-row.ensures program COARSER_DEFAULT off.read_off (subst (λ (sizes : List UnitSizes). AreProgramSizes program COARSER_DEFAULT sizes) (sym c.as_slice.ensures) off.are_sizes))
    c.in_ok-programs.ensures
