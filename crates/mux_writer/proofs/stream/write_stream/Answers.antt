use Rattle.std.proofs.Common.{Ok, sym, ap, ◌∙◌, arith}
use Rattle.std.proofs.lemmas.Option.{IfSome_then}
use Rattle.std.proofs.lemmas.Result.{on_err_weaker}
use Rattle.shelf_io.specs.Sink.{AddsPrefix}
use Rattle.shelf_io.proofs.Counted.{never_failed, unfailed}
use Rattle.mux_writer.specs.Pieces.{Pieces}
use Rattle.mux_writer.proofs.Fronts.{prefix-behind, prefix-within}
use Rattle.mux_writer.proofs.Told.{on_err}
use Rattle.mux_writer.proofs.Writing.{held-more, writing-more}
use Rattle.mux_writer.proofs.stream.write_stream.Goals as goal

pub returns-in-Ok-false-clause-err : goal.returns-in-Ok-false-clause-err
returns-in-Ok-false-clause-err g c =
    let inv = c.loop-gathered.invariant in
    on_err_weaker c.put.result
    (λ (added : AddsPrefix (g.K.Sink.written c.loop-gathered.to) (g.K.Sink.written c.put.new.to) c.loop-gathered.gathered).
    IfSome_then (g.P.PieceSource.told c.args.pieces.now) inv.written
    (λ (told : Pieces) is. prefix-within c.args.layout.now c.args.slot told c.args.schedule.now.rows c.loop-gathered.writer.at (g.K.Sink.written c.args.to.now)
    (g.K.Sink.written c.loop-gathered.to) (g.K.Sink.written c.put.new.to) c.loop-gathered.gathered inv.writing.within is added)) c.put.ensures.err

pub returns-in-Err-clause-err : goal.returns-in-Err-clause-err
returns-in-Err-clause-err g c =
    let inv = c.loop-gathered.invariant in
    IfSome_then (g.P.PieceSource.told c.args.pieces.now) inv.written
    (λ (told : Pieces) is. prefix-behind c.args.layout.now c.args.slot told c.args.schedule.now.rows c.loop-gathered.writer.at (g.K.Sink.written c.args.to.now)
    (g.K.Sink.written c.loop-gathered.to) c.loop-gathered.gathered inv.writing.within is)

pub returns-in_err-make_room-clause-err : goal.returns-in_err-make_room-clause-err
returns-in_err-make_room-clause-err g c =
    let inv = c.loop-gathered.invariant in
    on_err c.from_residual.result
    (IfSome_then (g.P.PieceSource.told c.args.pieces.now) inv.written
    (λ (told : Pieces) is. prefix-within c.args.layout.now c.args.slot told c.args.schedule.now.rows c.loop-gathered.writer.at (g.K.Sink.written c.args.to.now)
    (g.K.Sink.written c.loop-gathered.to) (g.K.Sink.written c.make_room.new.to) c.loop-gathered.gathered inv.writing.within is c.in_err-make_room.ensures.err))

pub loop-gathered-preserved : goal.loop-gathered-preserved
loop-gathered-preserved g c =
    let inv = c.loop-gathered.invariant in
    let next = c.in-Ok-true.ensures in
    let more = next.more (ap Ok c.in-Ok-true.field-0-test) in
    record {
      writing = writing-more c.args.layout.now c.args.slot c.args.schedule.now.rows c.loop-gathered.writer c.next.new.self inv.writing more.0 more.1;
      told = next.same ∙ inv.told;
      has = λ stream item piece has. next.still stream item piece (inv.has stream item piece has);
      keeps_sink = g.met.K.Sink.keeps_on c.args.to.now c.loop-gathered.to c.make_room.new.to inv.keeps_sink c.make_room.ensures.keeps;
      keeps_pieces = g.met.P.PieceSource.keeps_on c.args.pieces.now c.loop-gathered.pieces c.next.new.pieces inv.keeps_pieces next.keeps;
      sink_faults = unfailed (g.K.Sink.faults c.args.to.now) (g.K.Sink.faults c.loop-gathered.to) (g.K.Sink.faults c.make_room.new.to) inv.sink_faults
          c.make_room.ensures.causes.faults_grow (λ rise. never_failed tt (c.in_ok-make_room.ensures.only_failed rise));
      source_faults = omega (arith, inv.source_faults, next.causes.faults_grow);
      written = held-more c.args.layout.now c.args.slot c.args.schedule.now.rows c.loop-gathered.writer c.next.new.self (g.P.PieceSource.told c.args.pieces.now)
          (g.K.Sink.written c.args.to.now) (g.K.Sink.written c.loop-gathered.to) (g.K.Sink.written c.make_room.new.to) c.loop-gathered.gathered c.make_room.new.self c.push.new.self
          c.next.new.into inv.writing more.1 inv.written c.in_ok-make_room.ensures.ok (rw (sym inv.told) (next.packet (ap Ok c.in-Ok-true.field-0-test))) c.push.ensures;
    }
