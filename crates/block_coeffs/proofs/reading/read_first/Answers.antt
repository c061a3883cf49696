use Rattle.std.proofs.lemmas.Result.{err_from_is_err_and}
use Rattle.bit_cursor.specs.BitReader.{bits_left, place}
use Rattle.block_coeffs.specs.BlockFault.{refusal_told}
use Rattle.block_coeffs.proofs.Blocks.{explains-first_dc, reads-first_dc}
use Rattle.block_coeffs.proofs.reading.read_first.Goals as goal

pub returns-in_err-dc-clause-refused : goal.returns-in_err-dc-clause-refused
returns-in_err-dc-clause-refused g c =
    let p = err_from_is_err_and c.from_residual.result c.from_residual.ensures.1 in
    rw (p.1, p.2) (explains-first_dc c.args.way c.size_table.result c.if-way.true c.size_table.ensures.table (refusal_told c.in_err-dc.field-0.0)
    (bits_left c.args.from.now) (place c.args.from.now) c.in_err-dc.ensures.refused)

pub returns-in_ok-dc-clause-ok : goal.returns-in_ok-dc-clause-ok
returns-in_ok-dc-clause-ok g c =
    reads-first_dc c.args.way c.size_table.result c.if-way.true c.size_table.ensures.table c.in_ok-dc.dc (bits_left c.args.from.now)
    (bits_left c.read_dc.new.from) (place c.args.from.now) (place c.read_dc.new.from) c.in_ok-dc.ensures.ok
