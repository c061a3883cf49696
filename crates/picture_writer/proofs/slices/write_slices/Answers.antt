use Rattle.std.proofs.Common.{◌+◌, ◌<◌, [], drop, length, refl, ap, sym, subst, arith}
use Rattle.std.specs.List.{flat_map}
use Rattle.bit_cursor.proofs.Composed.{writes_none, writes_then, writes_exit}
use Rattle.block_coeffs.proofs.Writing.{writes_as}
use Rattle.macroblock_writer.proofs.Writing.{one_more, none_more, this_one, other_ones}
use Rattle.macroblock_writer.specs.Private.WholeSlices.{written_whole_slice}
use Rattle.picture_writer.specs.Private.Slices.{CanBeWritten}
use Rattle.picture_writer.proofs.slices.write_slices.Goals as goal

pub loop-slice-init : goal.loop-slice-init
loop-slice-init g c = record {
  done = [];
  put = writes_none (tt {0}) c.args.to.now g.met.K.Sink.keeps_itself c.requires.goes;
  rest = refl;
  whole = c.requires.whole;
  spelled = c.requires.spelled;
}

pub write_whole_slice-requires-clause-spelled : goal.write_whole_slice-requires-clause-spelled
write_whole_slice-requires-clause-spelled g c =
    let within : c.loop-slice.slice-index < length c.args.slices.now = omega (arith, c.loop-slice-test.true) in
    let Can = CanBeWritten c.args.picture.seq.now c.args.picture.coding.now in
    subst Can (sym c.slice-item.is) (this_one Can c.args.slices.now c.loop-slice.slice-index c.slice-item.result within c.loop-slice.invariant.spelled)

pub returns-in_err-write_whole_slice-clause-writes : goal.returns-in_err-write_whole_slice-clause-writes
returns-in_err-write_whole_slice-clause-writes g c =
    let within : c.loop-slice.slice-index < length c.args.slices.now = omega (arith, c.loop-slice-test.true) in
    let written = written_whole_slice c.args.picture.coding.now in
    writes_as
    (writes_exit c.from_residual.result (flat_map written (drop (c.loop-slice.slice-index + 1) c.args.slices.now)) c.from_residual.ensures.1
    (writes_then g.met.K.Sink.keeps_on c.loop-slice.invariant.put (writes_as c.in_err-write_whole_slice.ensures.writes (ap written c.slice-item.is))))
    (one_more written c.args.slices.now c.loop-slice.slice-index c.loop-slice.invariant.done (flat_map written c.args.slices.now) c.loop-slice.invariant.rest c.slice-item.result within)

pub loop-slice-preserved : goal.loop-slice-preserved
loop-slice-preserved g c =
    let within : c.loop-slice.slice-index < length c.args.slices.now = omega (arith, c.loop-slice-test.true) in
    let written = written_whole_slice c.args.picture.coding.now in
    let Can = CanBeWritten c.args.picture.seq.now c.args.picture.coding.now in
    let put = writes_then g.met.K.Sink.keeps_on c.loop-slice.invariant.put (writes_as c.in_ok-write_whole_slice.ensures.writes (ap written c.slice-item.is)) in
    record {
      done = _;
      put = put;
      rest = one_more written c.args.slices.now c.loop-slice.slice-index c.loop-slice.invariant.done (flat_map written c.args.slices.now) c.loop-slice.invariant.rest c.slice-item.result within;
      whole = c.in_ok-write_whole_slice.ensures.whole;
      spelled = other_ones Can c.args.slices.now c.loop-slice.slice-index c.slice-item.result within c.loop-slice.invariant.spelled;
    }

pub returns-clause-writes : goal.returns-clause-writes
returns-clause-writes g c =
    let written = written_whole_slice c.args.picture.coding.now in
    writes_as c.loop-slice.invariant.put
    (none_more written c.args.slices.now c.loop-slice.slice-index c.loop-slice.invariant.done (flat_map written c.args.slices.now) c.loop-slice.invariant.rest
    (omega (arith, c.loop-slice-test.false)))
