use Rattle.std.proofs.Common.{List, All, None, length, map, sym, ap, subst, ◌∙◌}
use Rattle.program_reader.specs.declared.program.UnitSource.{UnitSource}
use Rattle.std.proofs.lemmas.List.{length-map}
use Rattle.program_reader.specs.Sizes.{stands_at}
use Rattle.job_programs.proofs.NearLemmas.{sizes-many}
use Rattle.program_table.specs.Private.Rows.{CanBeSaid}
use Rattle.program_table.proofs.PassedRows.{row-off}
use Rattle.program_table.proofs.SizedRows.{all-bounded, all-said}
use Rattle.program_table.proofs.passed_row.row_of_passed_program.Goals as goal

pub rows_of_sized_units-requires-clause-units : goal.rows_of_sized_units-requires-clause-units
rows_of_sized_units-requires-clause-units c =
    let (start, program, coarser, read, off, are) = c.requires.read in
    let sendable = c.programs_can_be_sent.ensures.read start program read in
    subst (λ (units : List UnitSource). All CanBeSaid units) (sym (c.as_slice.ensures ∙ off.units_are)) (all-said program.video program.units sendable.units)

pub rows_of_sized_units-requires-clause-as_many : goal.rows_of_sized_units-requires-clause-as_many
rows_of_sized_units-requires-clause-as_many c =
    let (start, program, coarser, read, off, are) = c.requires.read in
    sizes-many program.video coarser None (map stands_at program.units) c.args.sizes.now are ∙ length-map program.units stands_at
    ∙ ap (λ (units : List UnitSource). length units) (sym (c.as_slice.ensures ∙ off.units_are))

pub rows_of_sized_units-requires-clause-bounded : goal.rows_of_sized_units-requires-clause-bounded
rows_of_sized_units-requires-clause-bounded c =
    let (start, program, coarser, read, off, are) = c.requires.read in
    let sendable = c.programs_can_be_sent.ensures.read start program read in
    all-bounded c.sizes_are_bounded.ensures program.video coarser None program.units c.args.sizes.now read.bytes tt sendable.units are

pub returns : goal.returns
returns c = λ program coarser off are.
    row-off program c.args.passed.now coarser c.args.weight c.args.drift c.as_slice.result.now c.args.sizes.now c.as_slice-2.result.now c.in_ok-units.units c.in_ok-audios.audios off c.as_slice.ensures
    c.in_ok-units.ensures c.as_slice-2.ensures c.in_ok-audios.ensures are
