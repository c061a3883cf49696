use Rattle.std.proofs.Common.{Ok, ap, sym, ◌∙◌, arith}
use Rattle.job_pieces.proofs.Filling.{told_more, writes_more}
use Rattle.job_pieces.proofs.fill.fill_room.Goals as goal

pub loop-packet-preserved : goal.loop-packet-preserved
loop-packet-preserved g c =
    let inv = c.loop-packet.invariant in
    let next = c.in-Ok-true.ensures in
    let more = next.more (ap Ok c.in-Ok-true.field-0-test) in
    record {
      rows = ap (λ w. w.rows) more.1 ∙ inv.rows;
      layout = ap (λ w. w.layout) more.1 ∙ inv.layout;
      writes = writes_more c.args.writer.now c.loop-packet.writer c.next.new.self inv.writes more.0 more.1;
      told = next.same ∙ inv.told;
      has = λ stream item piece has. next.still stream item piece (inv.has stream item piece has);
      held = told_more (g.P.PieceSource.told c.args.pieces.now) c.args.writer.now c.loop-packet.writer c.next.new.self c.loop-packet.room c.push.new.self c.next.new.into
          inv.writes more.1 inv.held (rw (sym inv.told) (next.packet (ap Ok c.in-Ok-true.field-0-test))) c.push.ensures;
      on = let one = ap (λ w. w.at) more.1 in omega (arith, inv.on, one);
      more = λ few. absurd (let one = ap (λ w. w.at) more.1 in omega (arith, inv.on, one, few));
      keeps = g.met.P.PieceSource.keeps_on c.args.pieces.now c.loop-packet.pieces c.next.new.pieces inv.keeps next.keeps;
      faults = omega (arith, inv.faults, next.causes.faults_grow);
    }
