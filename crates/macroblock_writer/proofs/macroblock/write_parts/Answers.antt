use Rattle.bit_cursor.proofs.Composed.{writes_then, writes_exit}
use Rattle.block_coeffs.proofs.Writing.{writes_as}
use Rattle.macroblock_writer.specs.Private.Writing.{written_modes, written_motion, written_coefficients}
use Rattle.macroblock_writer.proofs.Groups.{grouped}
use Rattle.macroblock_writer.proofs.Writing.{writes_beyond}
use Rattle.macroblock_writer.proofs.macroblock.write_parts.Goals as goal

pub returns-in_err-write_increment : goal.returns-in_err-write_increment
returns-in_err-write_increment g c =
    let coding = c.args.coding.now in
    let m = c.args.macroblock.now in
    writes_as
    (writes_beyond c.from_residual.result (written_coefficients coding m) c.from_residual.ensures.0
    (writes_beyond c.from_residual.result (written_motion coding m) c.from_residual.ensures.0
    (writes_exit c.from_residual.result (written_modes coding m) c.from_residual.ensures.1 c.in_err-write_increment.ensures)))
    (grouped coding m c.from.result c.from.ensures)

pub returns-in_err-write_modes : goal.returns-in_err-write_modes
returns-in_err-write_modes g c =
    let coding = c.args.coding.now in
    let m = c.args.macroblock.now in
    writes_as
    (writes_beyond c.from_residual-in_err-write_modes.result (written_coefficients coding m) c.from_residual-in_err-write_modes.ensures.0
    (writes_exit c.from_residual-in_err-write_modes.result (written_motion coding m) c.from_residual-in_err-write_modes.ensures.1
    (writes_then g.met.K.Sink.keeps_on c.in_ok-write_increment.ensures c.in_err-write_modes.ensures)))
    (grouped coding m c.from.result c.from.ensures)

pub returns-in_err-write_motion : goal.returns-in_err-write_motion
returns-in_err-write_motion g c =
    let coding = c.args.coding.now in
    let m = c.args.macroblock.now in
    writes_as
    (writes_exit c.from_residual-in_err-write_motion.result (written_coefficients coding m) c.from_residual-in_err-write_motion.ensures.1
    (writes_then g.met.K.Sink.keeps_on (writes_then g.met.K.Sink.keeps_on c.in_ok-write_increment.ensures c.in_ok-write_modes.ensures) c.in_err-write_motion.ensures))
    (grouped coding m c.from.result c.from.ensures)

pub returns : goal.returns
returns g c =
    writes_as
    (writes_then g.met.K.Sink.keeps_on
    (writes_then g.met.K.Sink.keeps_on (writes_then g.met.K.Sink.keeps_on c.in_ok-write_increment.ensures c.in_ok-write_modes.ensures) c.in_ok-write_motion.ensures) c.write_coefficients.ensures)
    (grouped c.args.coding.now c.args.macroblock.now c.from.result c.from.ensures)
