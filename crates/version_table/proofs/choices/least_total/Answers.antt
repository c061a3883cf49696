use Rattle.std.proofs.Common.{sum_by, arith, ap}
use Rattle.version_table.specs.Choice.{least_distortion}
use Rattle.version_table.proofs.Chosen.{units_from_all}
use Rattle.version_table.proofs.Least.{least_distortions-le, least_distortions_fit, least-units_from_more}
use Rattle.version_table.proofs.choices.least_total.Goals as goal

pub least_of_units-total-requires-clause-small : goal.least_of_units-total-requires-clause-small
least_of_units-total-requires-clause-small c =
    rw c.as_slice.ensures (omega (
      arith,
      least_distortions_fit c.args.table.now c.requires,
      least-units_from_more c.as_slice-program-items.result.now c.loop-program.program-index c.program-item.result c.loop-program-test.true
          c.program-item.is,
    ))

pub overflow_add-total : goal.overflow_add-total
overflow_add-total c =
    let here = rw c.as_slice.ensures at c.least_of_units-total.ensures in
    omega (
      arith,
      here,
      least_distortions_fit c.args.table.now c.requires,
      least-units_from_more c.as_slice-program-items.result.now c.loop-program.program-index c.program-item.result c.loop-program-test.true
          c.program-item.is,
    )

pub returns-clause-bound : goal.returns-clause-bound
returns-clause-bound c = λ choice fits.
    let none = ap (sum_by least_distortion) (units_from_all c.as_slice-program-items.result.now c.loop-program.program-index c.loop-program-test.false) in
    omega (arith, none, least_distortions-le c.args.table.now choice fits)
