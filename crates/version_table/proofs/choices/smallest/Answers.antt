use Rattle.std.proofs.Common.{List, subst}
use Rattle.std.specs.List.{AllZip}
use Rattle.version_table.specs.declared.table.Unit.{Unit as CodedUnit}
use Rattle.version_table.specs.Choice.{IsSmallestVersion}
use Rattle.version_table.proofs.Chosen.{AllZip-more, smallest_fits, units_before_all}
use Rattle.version_table.proofs.choices.smallest.Goals as goal

pub loop-program-preserved : goal.loop-program-preserved
loop-program-preserved c =
    AllZip-more IsSmallestVersion c.as_slice-program-items.result.now c.loop-program.program-index c.program-item.result c.as_slice.result.now c.loop-program.choice c.add_smallest.new.choice
    c.loop-program-test.true c.program-item.is c.as_slice.ensures c.loop-program.invariant c.in_ok-add_smallest.ensures

pub returns-clause-fits : goal.returns-clause-fits
returns-clause-fits c =
    let all = units_before_all c.args.table.now c.as_slice-program-items.result.now c.loop-program.program-index c.as_slice-program-items.ensures c.loop-program-test.false in
    smallest_fits c.args.table.now c.loop-program.choice (subst (λ (units : List CodedUnit). AllZip IsSmallestVersion units c.loop-program.choice) all c.loop-program.invariant)
