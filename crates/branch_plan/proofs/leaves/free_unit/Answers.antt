use Rattle.std.proofs.Common.{◌≡◌, None, length, arith}
use Rattle.version_table.specs.Table.{units_of}
use Rattle.dual_bounds.specs.Fixed.{NamesVersion}
use Rattle.certificate_checker.specs.Faults.{IsSettled}
use Rattle.certificate_checker.proofs.Units.{all_zip_from, all_zip_size, no_unit}
use Rattle.branch_plan.proofs.leaves.free_unit.Goals as goal

pub is_free-requires-clause-unit : goal.is_free-requires-clause-unit
is_free-requires-clause-unit c =
    omega (arith, all_zip_size NamesVersion (units_of c.args.table.now) c.args.fixed.now c.requires.fixed, c.loop-unit-test.true, c.len-unit-end.ensures)

pub returns : goal.returns
returns c =
    let size : length c.args.fixed.now ≡ length (units_of c.args.table.now) = all_zip_size NamesVersion (units_of c.args.table.now) c.args.fixed.now c.requires.fixed in
    all_zip_from IsSettled (units_of c.args.table.now) c.args.fixed.now no_unit None size
    (λ u below. c.loop-unit.invariant u (omega (arith, below, size, c.loop-unit-test.false, c.len-unit-end.ensures)))
