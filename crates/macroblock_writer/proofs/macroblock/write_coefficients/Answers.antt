use Rattle.std.specs.List.{flat_map, range_with_len}
use Rattle.bit_cursor.proofs.Composed.{writes_then, writes_exit}
use Rattle.picture_grammar.specs.Written.{written_coded_block}
use Rattle.macroblock_writer.proofs.macroblock.write_coefficients.Goals as goal

pub returns-in_err-write_pattern : goal.returns-in_err-write_pattern
returns-in_err-write_pattern g c =
    writes_exit c.from_residual.result (flat_map (written_coded_block c.args.coding.now c.args.macroblock.now) (range_with_len 0 6)) c.from_residual.ensures.1 c.in_err-write_pattern.ensures

pub returns : goal.returns
returns g c = writes_then g.met.K.Sink.keeps_on c.in_ok-write_pattern.ensures c.write_blocks.ensures
