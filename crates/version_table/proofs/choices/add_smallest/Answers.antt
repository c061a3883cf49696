use Rattle.version_table.specs.Choice.{IsSmallestVersion}
use Rattle.version_table.proofs.Chosen.{AppendsEach-more}
use Rattle.version_table.proofs.choices.add_smallest.Goals as goal

pub loop-unit-preserved : goal.loop-unit-preserved
loop-unit-preserved c =
    AppendsEach-more IsSmallestVersion c.args.units.now c.loop-unit.unit-index c.unit-item.result c.smallest_version.result c.args.choice.now c.loop-unit.choice c.push.new.self
    c.loop-unit-test.true c.unit-item.is c.loop-unit.invariant c.smallest_version.ensures c.in_ok-push.ensures.ok
