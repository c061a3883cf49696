use Rattle.std.proofs.Common.{◌++◌, ap₂}
use Rattle.bit_lists.specs.Bits.{bits_of}
use Rattle.bit_cursor.proofs.Composed.{writes_then}
use Rattle.prefix_codes.specs.TableName.{code_for}
use Rattle.block_coeffs.proofs.Writing.{writes_as}
use Rattle.block_coeffs.proofs.written.write_dc.Goals as goal

pub returns : goal.returns
returns g c =
    writes_as (writes_then g.met.K.Sink.keeps_on c.in_ok-write_code.ensures c.put_bits.ensures.writes)
    (ap₂ (λ a b. a ++ b) (ap₂ code_for c.size_table.ensures.table c.from.ensures) (ap₂ bits_of c.from-3.ensures c.from-2.ensures))
