use Rattle.std.proofs.Common.{ap, sym, subst}
use Rattle.std.specs.List.{flat_map, AllByRecursion}
use Rattle.bit_cursor.proofs.Composed.{writes_then, writes_exit}
use Rattle.block_coeffs.proofs.Writing.{writes_as}
use Rattle.picture_grammar.specs.Written.{written_macroblock, written_slice}
use Rattle.macroblock_writer.specs.Private.Writing.{CanBeWritten}
use Rattle.macroblock_writer.proofs.slice.write_header_and_macroblocks.Goals as goal

pub write_macroblocks-requires-clause-fit : goal.write_macroblocks-requires-clause-fit
write_macroblocks-requires-clause-fit g c = subst (AllByRecursion (CanBeWritten c.args.coding.now)) (sym c.as_slice.ensures) c.requires.fits.macroblocks

pub returns-in_err-write_slice_head : goal.returns-in_err-write_slice_head
unfolding written_slice
returns-in_err-write_slice_head g c =
    let s = c.args.slice.now in
    writes_exit c.from_residual.result (flat_map (written_macroblock c.args.coding.now) s.macroblocks) c.from_residual.ensures.1 c.in_err-write_slice_head.ensures

pub returns : goal.returns
unfolding written_slice
returns g c =
    writes_then g.met.K.Sink.keeps_on c.in_ok-write_slice_head.ensures
    (writes_as c.write_macroblocks.ensures (ap (flat_map (written_macroblock c.args.coding.now)) c.as_slice.ensures))
