use Rattle.version_table.specs.Lines.{line_of_unit, text_of_line}
use Rattle.version_table.proofs.Pushed.{parts_more}
use Rattle.version_table.proofs.write.push_units.Goals as goal

pub loop-unit-preserved : goal.loop-unit-preserved
loop-unit-preserved c =
    parts_more text_of_line line_of_unit _ c.loop-unit.unit-index c.unit-item.result _ c.args.out.now.items c.loop-unit.out.items _ c.loop-unit-test.true c.unit-item.is c.loop-unit.invariant c.in_ok-push_unit.ensures
