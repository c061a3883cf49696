use Rattle.std.proofs.Common.{List, All, None, length, map, sym, ap, subst, ◌∙◌}
use Rattle.bit_lists.specs.Fields.{AreBytes}
use Rattle.program_reader.specs.declared.program.UnitSource.{UnitSource}
use Rattle.std.proofs.lemmas.List.{length-map}
use Rattle.program_reader.specs.Sizes.{stands_at}
use Rattle.job_programs.proofs.NearLemmas.{sizes-many}
use Rattle.program_table.specs.Private.Rows.{CanBeSaid}
use Rattle.program_table.specs.Table.{audio_row}
use Rattle.program_table.proofs.SizedRows.{all-bounded, all-said, row-sized}
use Rattle.program_table.proofs.sized_row.row_of_sized_program.Goals as goal

pub rows_of_sized_units-requires-clause-units : goal.rows_of_sized_units-requires-clause-units
rows_of_sized_units-requires-clause-units c =
    let program = c.args.program.now in
    subst (λ (units : List UnitSource). All CanBeSaid units) (sym c.as_slice.ensures) (all-said program.video program.units c.requires.sendable.units)

pub rows_of_sized_units-requires-clause-as_many : goal.rows_of_sized_units-requires-clause-as_many
rows_of_sized_units-requires-clause-as_many c =
    let program = c.args.program.now in
    sizes-many program.video c.requires.sizes.0 None (map stands_at program.units) c.args.sizes.now c.requires.sizes.1 ∙ length-map program.units stands_at
    ∙ ap (λ (units : List UnitSource). length units) (sym c.as_slice.ensures)

pub rows_of_sized_units-requires-clause-bounded : goal.rows_of_sized_units-requires-clause-bounded
rows_of_sized_units-requires-clause-bounded c =
    let program = c.args.program.now in
    all-bounded c.sizes_are_bounded.ensures program.video c.requires.sizes.0 None program.units c.args.sizes.now (subst AreBytes c.as_slice-video.ensures c.see_bytes.ensures) tt c.requires.sendable.units c.requires.sizes.1

pub returns : goal.returns
returns c = λ coarser are.
    row-sized c.args.program.now coarser c.args.weight c.args.drift c.as_slice.result.now c.args.sizes.now c.in_ok-units.units c.in_ok-audios.audios c.as_slice.ensures c.in_ok-units.ensures
    (c.in_ok-audios.ensures ∙ ap (map audio_row) c.as_slice-2.ensures) are
