use Rattle.std.proofs.Common.{rules, [], refl, ap, sym, subst, append-nil}
use Rattle.std.specs.List.{flat_map, AllByRecursion}
use Rattle.bit_cursor.proofs.Composed.{writes_then, writes_exit, finished}
use Rattle.block_coeffs.proofs.Writing.{writes_as}
use Rattle.macroblock_writer.specs.Private.WholeSlices.{written_whole_slice}
use Rattle.picture_writer.specs.WrittenPicture.{written_end}
use Rattle.picture_writer.specs.Private.Slices.{CanBeWritten}
use Rattle.picture_writer.proofs.Finished.{no_ok, writer_causes, writer_front, writer_keeps, finish_causes, finish_front, finish_keeps}
use Rattle.picture_writer.proofs.picture.write_behind_head.Goals as goal

pub write_slices-requires-clause-spelled : goal.write_slices-requires-clause-spelled
write_slices-requires-clause-spelled g c = subst (AllByRecursion (CanBeWritten c.args.picture.now.seq c.args.picture.now.coding)) (sym c.as_slice.ensures) c.requires.spelled

pub returns-in_err-write_slices : goal.returns-in_err-write_slices
returns-in_err-write_slices g c =
    let picture = c.args.picture.now in
    let r = c.from_residual.result in
    let call = writes_exit r (written_end picture.sequence_end) c.from_residual.ensures.1
    (writes_as c.in_err-write_slices.ensures.writes (ap (flat_map (written_whole_slice picture.coding)) c.as_slice.ensures)) in
    record {
      ok = no_ok _ r c.from_residual.ensures.0;
      err = writer_front r c.args.to.now c.new-writer.ensures.sink c.new-writer.ensures.none_waits (search rules) call;
      causes = writer_causes r c.args.to.now c.new-writer.ensures.sink (search rules) call;
      keeps = writer_keeps r c.args.to.now c.new-writer.ensures.sink (search rules) call;
    }

pub returns-in_err-write_end : goal.returns-in_err-write_end
returns-in_err-write_end g c =
    let picture = c.args.picture.now in
    let r = c.from_residual-in_err-write_end.result in
    let slices = writes_as c.in_ok-write_slices.ensures.writes (ap (flat_map (written_whole_slice picture.coding)) c.as_slice.ensures) in
    let call = writes_as (writes_exit r [] c.from_residual-in_err-write_end.ensures.1 (writes_then g.met.K.Sink.keeps_on slices c.in_err-write_end.ensures.writes)) (append-nil _) in
    record {
      ok = no_ok _ r c.from_residual-in_err-write_end.ensures.0;
      err = writer_front r c.args.to.now c.new-writer.ensures.sink c.new-writer.ensures.none_waits (search rules) call;
      causes = writer_causes r c.args.to.now c.new-writer.ensures.sink (search rules) call;
      keeps = writer_keeps r c.args.to.now c.new-writer.ensures.sink (search rules) call;
    }

pub returns : goal.returns
returns g c =
    let picture = c.args.picture.now in
    let r = c.finish.result in
    let slices = writes_as c.in_ok-write_slices.ensures.writes (ap (flat_map (written_whole_slice picture.coding)) c.as_slice.ensures) in
    let call = writes_then g.met.K.Sink.keeps_on slices c.in_ok-write_end.ensures.writes in
    let out = c.finish.new.self.0 in
    record {
      ok = finished r out (ap g.K.Sink.written c.new-writer.ensures.sink) c.new-writer.ensures.none_waits call c.finish.ensures.ok refl (search rules);
      err = finish_front r c.args.to.now out c.new-writer.ensures.sink c.new-writer.ensures.none_waits (search rules) call c.finish.ensures.err;
      causes = finish_causes r c.args.to.now out c.new-writer.ensures.sink (search rules) call c.finish.ensures.failed c.finish.ensures.never_missing c.finish.ensures.faults;
      keeps = finish_keeps c.args.to.now out g.met.K.Sink.keeps_on c.new-writer.ensures.sink (search rules) call c.finish.ensures.keeps;
    }
