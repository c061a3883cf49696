use Rattle.std.proofs.Common.{arith}
use Rattle.version_table.specs.Choice.{HasVersion}
use Rattle.version_table.proofs.Chosen.{enough_at, parts_at, distortion_fits}
use Rattle.version_table.proofs.choices.distortion_of.Goals as goal

pub split_at-requires : goal.split_at-requires
split_at-requires c =
    omega (
      arith,
      enough_at HasVersion c.as_slice-program-items.result.now c.loop-program.program-index c.program-item.result c.loop-program.rest.now
          c.loop-program-test.true c.program-item.is c.loop-program.invariant.fits,
    )

pub distortion_of_units-total-requires-clause-fits : goal.distortion_of_units-total-requires-clause-fits
distortion_of_units-total-requires-clause-fits c = (parts_at HasVersion c.as_slice-program-items.result.now c.loop-program.program-index
    c.program-item.result c.loop-program.rest.now c.loop-program-test.true c.program-item.is c.loop-program.invariant.fits
    c.as_slice.result.now c.len.result c.split_at.result.0.now c.split_at.result.1.now c.as_slice.ensures c.len.ensures c.split_at.ensures.front c.split_at.ensures.back).of_first

pub distortion_of_units-total-requires-clause-small : goal.distortion_of_units-total-requires-clause-small
distortion_of_units-total-requires-clause-small c =
    let parts = parts_at HasVersion c.as_slice-program-items.result.now c.loop-program.program-index c.program-item.result c.loop-program.rest.now
    c.loop-program-test.true c.program-item.is c.loop-program.invariant.fits
    c.as_slice.result.now c.len.result c.split_at.result.0.now c.split_at.result.1.now c.as_slice.ensures c.len.ensures c.split_at.ensures.front c.split_at.ensures.back in
    omega (arith, parts.total, distortion_fits c.args.table.now c.args.choice.now c.requires.valid c.requires.fits)

pub overflow_add-total : goal.overflow_add-total
overflow_add-total c =
    let parts = parts_at HasVersion c.as_slice-program-items.result.now c.loop-program.program-index c.program-item.result c.loop-program.rest.now
    c.loop-program-test.true c.program-item.is c.loop-program.invariant.fits
    c.as_slice.result.now c.len.result c.split_at.result.0.now c.split_at.result.1.now c.as_slice.ensures c.len.ensures c.split_at.ensures.front c.split_at.ensures.back in
    omega (arith, parts.total, distortion_fits c.args.table.now c.args.choice.now c.requires.valid c.requires.fits)

pub loop-program-preserved : goal.loop-program-preserved
loop-program-preserved c =
    let parts = parts_at HasVersion c.as_slice-program-items.result.now c.loop-program.program-index c.program-item.result c.loop-program.rest.now
    c.loop-program-test.true c.program-item.is c.loop-program.invariant.fits
    c.as_slice.result.now c.len.result c.split_at.result.0.now c.split_at.result.1.now c.as_slice.ensures c.len.ensures c.split_at.ensures.front c.split_at.ensures.back in
    record { fits = parts.of_others; total = omega (arith, parts.total) }
