use Rattle.std.proofs.Common.{◌+◌, ◌-◌, [], ◌++◌, refl, arith}
use Rattle.std.specs.List.{flat_map, range_with_len}
use Rattle.bit_cursor.proofs.Composed.{writes_none, writes_then, writes_exit}
use Rattle.block_coeffs.proofs.Writing.{writes_as}
use Rattle.picture_grammar.specs.Written.{written_coded_block}
use Rattle.macroblock_writer.proofs.Writing.{one_number, no_number}
use Rattle.macroblock_writer.proofs.macroblock.write_blocks.Goals as goal

pub loop-i-init : goal.loop-i-init
loop-i-init g c = record {
  done = [];
  put = writes_none (tt {0}) c.args.to.now g.met.K.Sink.keeps_itself c.requires.goes;
  rest = refl;
}

pub returns-in_err-write_coded_block : goal.returns-in_err-write_coded_block
returns-in_err-write_coded_block g c =
    let written = written_coded_block c.args.coding.now c.args.macroblock.now in
    writes_as (writes_exit c.from_residual.result (flat_map written (range_with_len (c.loop-i.i + 1) (6 - (c.loop-i.i + 1)))) c.from_residual.ensures.1
    (writes_then g.met.K.Sink.keeps_on c.loop-i.invariant.put c.in_err-write_coded_block.ensures))
    (one_number written 6 c.loop-i.i c.loop-i.invariant.done (flat_map written (range_with_len 0 6)) c.loop-i.invariant.rest (omega (arith, c.loop-i-test.true)))

pub loop-i-preserved : goal.loop-i-preserved
loop-i-preserved g c =
    let written = written_coded_block c.args.coding.now c.args.macroblock.now in
    record {
      done = c.loop-i.invariant.done ++ written c.loop-i.i;
      put = writes_then g.met.K.Sink.keeps_on c.loop-i.invariant.put c.in_ok-write_coded_block.ensures;
      rest = one_number written 6 c.loop-i.i c.loop-i.invariant.done (flat_map written (range_with_len 0 6)) c.loop-i.invariant.rest (omega (arith, c.loop-i-test.true));
    }

pub returns : goal.returns
returns g c =
    let written = written_coded_block c.args.coding.now c.args.macroblock.now in
    writes_as c.loop-i.invariant.put
    (no_number written 6 c.loop-i.i c.loop-i.invariant.done (flat_map written (range_with_len 0 6)) c.loop-i.invariant.rest (omega (arith, c.loop-i-test.false)))
