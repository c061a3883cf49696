use Rattle.std.proofs.Common.{ℕ, ◌<◌, ◌^◌, ap, sym, subst}
use Rattle.bit_lists.specs.Bits.{bits_of}
use Rattle.bit_cursor.proofs.Composed.{writes_then, writes_exit}
use Rattle.block_coeffs.proofs.Writing.{writes_as}
use Rattle.picture_grammar.specs.Written.{written_slice_info}
use Rattle.macroblock_writer.proofs.slice.write_slice_head.Goals as goal

pub put_bits-requires-clause-number : goal.put_bits-requires-clause-number
put_bits-requires-clause-number g c = subst (λ (n : ℕ). n < 2 ^ 5) (sym c.from.ensures) c.requires.code

pub returns-in_err-put_bits : goal.returns-in_err-put_bits
returns-in_err-put_bits g c =
    writes_exit c.from_residual.result (written_slice_info c.args.info.now) c.from_residual.ensures.1 (writes_as c.in_err-put_bits.ensures.writes (ap (bits_of 5) c.from.ensures))

pub returns : goal.returns
returns g c = writes_then g.met.K.Sink.keeps_on (writes_as c.in_ok-put_bits.ensures.writes (ap (bits_of 5) c.from.ensures)) c.write_info.ensures
