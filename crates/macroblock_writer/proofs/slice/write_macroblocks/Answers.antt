use Rattle.std.proofs.Common.{◌+◌, ◌<◌, [], drop, length, refl, ap, sym, subst, arith}
use Rattle.std.specs.List.{flat_map}
use Rattle.bit_cursor.proofs.Composed.{writes_none, writes_then, writes_exit}
use Rattle.block_coeffs.proofs.Writing.{writes_as}
use Rattle.picture_grammar.specs.Written.{written_macroblock}
use Rattle.macroblock_writer.specs.Private.Writing.{CanBeWritten}
use Rattle.macroblock_writer.proofs.Writing.{one_more, none_more, this_one, other_ones}
use Rattle.macroblock_writer.proofs.slice.write_macroblocks.Goals as goal

pub loop-macroblock-init : goal.loop-macroblock-init
loop-macroblock-init g c = record {
  done = [];
  put = writes_none (tt {0}) c.args.to.now g.met.K.Sink.keeps_itself c.requires.goes;
  rest = refl;
  fit = c.requires.fit;
}

pub write_parts-requires-clause-fits : goal.write_parts-requires-clause-fits
write_parts-requires-clause-fits g c =
    let within : c.loop-macroblock.macroblock-index < length c.args.macroblocks.now = omega (arith, c.loop-macroblock-test.true) in
    let coding = c.args.coding.now in
    let is = c.macroblock-item.is in
    subst (CanBeWritten coding) (sym is) (this_one (CanBeWritten coding) c.args.macroblocks.now c.loop-macroblock.macroblock-index c.macroblock-item.result within c.loop-macroblock.invariant.fit)

pub returns-in_err-write_parts : goal.returns-in_err-write_parts
returns-in_err-write_parts g c =
    let within : c.loop-macroblock.macroblock-index < length c.args.macroblocks.now = omega (arith, c.loop-macroblock-test.true) in
    let written = written_macroblock c.args.coding.now in
    writes_as
    (writes_exit c.from_residual.result (flat_map written (drop (c.loop-macroblock.macroblock-index + 1) c.args.macroblocks.now)) c.from_residual.ensures.1
    (writes_then g.met.K.Sink.keeps_on c.loop-macroblock.invariant.put (writes_as c.in_err-write_parts.ensures (ap written c.macroblock-item.is))))
    (one_more written c.args.macroblocks.now c.loop-macroblock.macroblock-index c.loop-macroblock.invariant.done
    (flat_map written c.args.macroblocks.now) c.loop-macroblock.invariant.rest c.macroblock-item.result within)

pub loop-macroblock-preserved : goal.loop-macroblock-preserved
loop-macroblock-preserved g c =
    let within : c.loop-macroblock.macroblock-index < length c.args.macroblocks.now = omega (arith, c.loop-macroblock-test.true) in
    let written = written_macroblock c.args.coding.now in
    let put = writes_then g.met.K.Sink.keeps_on c.loop-macroblock.invariant.put (writes_as c.in_ok-write_parts.ensures (ap written c.macroblock-item.is)) in
    record {
      done = _;
      put = put;
      rest = one_more written c.args.macroblocks.now c.loop-macroblock.macroblock-index c.loop-macroblock.invariant.done
          (flat_map written c.args.macroblocks.now) c.loop-macroblock.invariant.rest c.macroblock-item.result within;
      fit = other_ones (CanBeWritten c.args.coding.now) c.args.macroblocks.now c.loop-macroblock.macroblock-index c.macroblock-item.result within c.loop-macroblock.invariant.fit;
    }

pub returns : goal.returns
returns g c =
    let written = written_macroblock c.args.coding.now in
    writes_as c.loop-macroblock.invariant.put
    (none_more written c.args.macroblocks.now c.loop-macroblock.macroblock-index c.loop-macroblock.invariant.done (flat_map written c.args.macroblocks.now) c.loop-macroblock.invariant.rest
    (omega (arith, c.loop-macroblock-test.false)))
