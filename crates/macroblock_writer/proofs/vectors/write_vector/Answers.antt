use Rattle.bit_cursor.proofs.Composed.{writes_then, writes_exit}
use Rattle.picture_grammar.specs.Written.{written_vector_part}
use Rattle.macroblock_writer.proofs.Writing.{writes_beyond}
use Rattle.macroblock_writer.proofs.vectors.write_vector.Goals as goal

pub returns-in_err-write_select : goal.returns-in_err-write_select
returns-in_err-write_select g c =
    writes_beyond c.from_residual.result (written_vector_part c.args.f_codes c.args.vector 1) c.from_residual.ensures.0
    (writes_exit c.from_residual.result (written_vector_part c.args.f_codes c.args.vector 0) c.from_residual.ensures.1 c.in_err-write_select.ensures)

pub returns-in_err-write_part : goal.returns-in_err-write_part
returns-in_err-write_part g c =
    writes_exit c.from_residual-in_err-write_part.result (written_vector_part c.args.f_codes c.args.vector 1) c.from_residual-in_err-write_part.ensures.1
    (writes_then g.met.K.Sink.keeps_on c.in_ok-write_select.ensures c.in_err-write_part.ensures)

pub returns : goal.returns
returns g c =
    writes_then g.met.K.Sink.keeps_on (writes_then g.met.K.Sink.keeps_on c.in_ok-write_select.ensures c.in_ok-write_part.ensures) c.write_part-2.ensures
