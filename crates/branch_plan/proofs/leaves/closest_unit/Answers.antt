use Rattle.std.proofs.Common.{arith}
use Rattle.version_table.specs.Table.{units_of}
use Rattle.dual_bounds.specs.Fixed.{NamesVersion}
use Rattle.certificate_checker.proofs.Units.{all_zip_size}
use Rattle.branch_plan.proofs.leaves.closest_unit.Goals as goal

pub is_free-requires-clause-unit : goal.is_free-requires-clause-unit
is_free-requires-clause-unit c =
    omega (arith, all_zip_size NamesVersion (units_of c.args.table.now) c.args.fixed.now c.requires.fixed, c.loop-unit-test.true, c.len-unit-end.ensures)
