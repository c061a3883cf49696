use Rattle.std.proofs.lemmas.List.{drop_all}
use Rattle.program_table.proofs.SizedRows.{sized-all, sized-more}
use Rattle.program_table.proofs.sized_row.rows_of_sized_units.Goals as goal

pub loop-k-preserved : goal.loop-k-preserved
loop-k-preserved c =
    sized-more c.args.weight c.args.drift c.args.units.now c.args.sizes.now c.loop-k.k _ c.index-sizes-k.result c.loop-k.rows c.push.new.self c.unit_weight-own.result c.row_of_sized_unit.result c.loop-k-test.true c.requires.as_many
    c.index-sizes-k.is (c.unit_weight-own.ensures.value _) c.row_of_sized_unit.ensures c.in_ok-push.ensures.ok c.loop-k.invariant

pub returns : goal.returns
returns c =
    sized-all c.args.weight c.args.drift c.args.units.now c.args.sizes.now c.loop-k.k c.loop-k.rows (drop_all c.loop-k.k c.args.units.now c.loop-k-test.false) c.loop-k.invariant
