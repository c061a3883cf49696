use Rattle.std.proofs.Common.{arith}
use Rattle.version_table.specs.Table.{units_of}
use Rattle.dual_bounds.specs.Fixed.{NamesVersion}
use Rattle.certificate_checker.proofs.Units.{all_zip_size}
use Rattle.branch_plan.proofs.leaves.first_free.Goals as goal

pub is_free-requires-clause-unit : goal.is_free-requires-clause-unit
is_free-requires-clause-unit c =
    let size = all_zip_size NamesVersion (units_of c.args.table.now) c.args.fixed.now c.requires.fixed in
    omega (arith, size, c.if-number-len.true, c.len.ensures)
