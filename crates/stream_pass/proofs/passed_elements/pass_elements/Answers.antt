use Rattle.std.proofs.Common.{◌++◌, ◌∷◌, [], ℕ, Bool, sym, subst, ◌∙◌, arith}
use Rattle.std.specs.Option.{option_copied}
use Rattle.pes_passing.specs.ElementPackets.{Goes}
use Rattle.stream_pass.specs.PassedElements.{IsIdRefused, IsOfId}
use Rattle.stream_pass.specs.Private.Passed.{all_of, IsLast, IsOfPackets, IsOver}
use Rattle.ts_demux.specs.Pass.{IsWhole}
use Rattle.stream_pass.proofs.Elements.{element_refused, end_taken, last_is, more_counted, next_is, of_id, over_limit, short_refused}
use Rattle.stream_pass.proofs.Passed.{never_passing, on_read, on_refused}
use Rattle.stream_pass.proofs.passed_elements.pass_elements.Goals as goal

pub returns-in-Err-clause-refused : goal.returns-in-Err-clause-refused
returns-in-Err-clause-refused g c =
    short_refused (g.W.StreamWalk.refuses c.args.walk) (g.S.Source.left c.args.source.now) (g.S.Source.left c.open.new.source) (g.S.Source.most c.args.source.now) (g.S.Source.most c.open.new.source)
    c.args.id c.in-Err.fault c.in-Err.ensures.refused

pub loop-more-init : goal.loop-more-init
loop-more-init g c = record {
  ended = [];
  passes = c.in-Ok.ensures.passed;
  taken = c.begin-passed.ensures;
  id = c.in-Ok.ensures.id;
  faults = c.in-Ok.ensures.causes.faults_grow;
  absences = c.in-Ok.ensures.causes.absences_grow;
  keeps = c.in-Ok.ensures.keeps;
}

pub next-requires : goal.next-requires
next-requires g c = record { stands = (g.S.Source.left c.args.source.now, g.S.Source.most c.args.source.now, c.loop-more.invariant.ended, c.loop-more.invariant.passes) }

pub take_packet-requires : goal.take_packet-requires
take_packet-requires g c =
    let left = g.S.Source.left c.args.source.now in
    let most = g.S.Source.most c.args.source.now in
    let inv = c.loop-more.invariant in
    let goes = subst (λ (more : Bool). Goes more left (g.S.Source.left c.next.new.source) most (g.S.Source.most c.next.new.source) inv.ended c.next.new.self)
    c.if-not-more.false (c.in-Ok-next.ensures.passed left most inv.ended inv.passes) in (
      c.args.walk,
      inv.ended,
      goes.0,
      next_is left (g.S.Source.left c.next.new.source) most (g.S.Source.most c.next.new.source) inv.ended c.next.new.self goes.0 (option_copied c.packet-in-loop-more.result) c.packet-in-loop-more.ensures goes.1 goes.2,
      inv.taken,
    )

pub loop-more-preserved : goal.loop-more-preserved
loop-more-preserved g c =
    let left = g.S.Source.left c.args.source.now in
    let most = g.S.Source.most c.args.source.now in
    let inv = c.loop-more.invariant in
    let said = c.in-Ok-next.ensures in
    let goes = subst (λ (more : Bool). Goes more left (g.S.Source.left c.next.new.source) most (g.S.Source.most c.next.new.source) inv.ended c.next.new.self)
    c.if-not-more.false (said.passed left most inv.ended inv.passes) in
    record {
      ended = inv.ended ++ goes.0 ∷ [];
      passes = goes.2;
      taken = c.in-Ok-take_packet.ensures c.args.walk inv.ended goes.0
          (next_is left (g.S.Source.left c.next.new.source) most (g.S.Source.most c.next.new.source) inv.ended c.next.new.self goes.0 (option_copied c.packet-in-loop-more.result) c.packet-in-loop-more.ensures goes.1 goes.2)
          inv.taken;
      id = said.same ∙ inv.id;
      faults = omega (arith, inv.faults, said.causes.faults_grow);
      absences = omega (arith, inv.absences, said.causes.absences_grow);
      keeps = g.met.S.Source.keeps_on c.args.source.now c.loop-more.source c.next.new.source inv.keeps said.keeps;
    }

pub loop-more-smaller : goal.loop-more-smaller
loop-more-smaller g c =
    let left = g.S.Source.left c.args.source.now in
    let most = g.S.Source.most c.args.source.now in
    let inv = c.loop-more.invariant in
    let goes = subst (λ (more : Bool). Goes more left (g.S.Source.left c.next.new.source) most (g.S.Source.most c.next.new.source) inv.ended c.next.new.self)
    c.if-not-more.false (c.in-Ok-next.ensures.passed left most inv.ended inv.passes) in
    let counted = more_counted left (g.S.Source.left c.loop-more.source) (g.S.Source.left c.next.new.source) most (g.S.Source.most c.loop-more.source) (g.S.Source.most c.next.new.source)
    inv.ended goes.0 c.loop-more.packets c.next.new.self inv.passes goes.2 in
    omega (arith, counted.0, counted.1)

pub returns-in-Err-next-clause-refused : goal.returns-in-Err-next-clause-refused
returns-in-Err-next-clause-refused g c =
    let left = g.S.Source.left c.args.source.now in
    let most = g.S.Source.most c.args.source.now in
    let inv = c.loop-more.invariant in
    element_refused (g.W.StreamWalk.refuses c.args.walk) left (g.S.Source.left c.next.new.source) most (g.S.Source.most c.next.new.source) c.args.id c.in-Err-next.fault
    (c.in-Err-next.ensures.refused left most inv.ended inv.passes)

pub taken-requires : goal.taken-requires
taken-requires g c =
    let left = g.S.Source.left c.args.source.now in
    let most = g.S.Source.most c.args.source.now in
    let inv = c.loop-more.invariant in
    let goes = subst (λ (more : Bool). Goes more left (g.S.Source.left c.next.new.source) most (g.S.Source.most c.next.new.source) inv.ended c.next.new.self)
    c.if-not-more.true (c.in-Ok-next.ensures.passed left most inv.ended inv.passes) in
    omega (arith, end_taken left (g.S.Source.left c.next.new.source) most (g.S.Source.most c.next.new.source) inv.ended c.next.new.self goes (g.met.S.Source.most_fits c.args.source.now))

pub end_stream-requires : goal.end_stream-requires
end_stream-requires g c =
    let left = g.S.Source.left c.args.source.now in
    let after = g.S.Source.left c.next.new.source in
    let most = g.S.Source.most c.args.source.now in
    let most_after = g.S.Source.most c.next.new.source in
    let inv = c.loop-more.invariant in
    let goes = subst (λ (more : Bool). Goes more left after most most_after inv.ended c.next.new.self) c.if-not-more.true (c.in-Ok-next.ensures.passed left most inv.ended inv.passes) in
    let fits = g.met.S.Source.most_fits c.args.source.now in
    let last = option_copied c.packet.result in
    let final : IsLast inv.ended last c.taken.result = subst (IsLast inv.ended last) (sym c.taken.ensures) (last_is left after most most_after inv.ended c.next.new.self goes fits last c.packet.ensures) in
    (c.args.walk, inv.ended, final, inv.taken)

pub returns-then-not-more-clause-read : goal.returns-then-not-more-clause-read
returns-then-not-more-clause-read g c =
    let left = g.S.Source.left c.args.source.now in
    let after = g.S.Source.left c.next.new.source in
    let most = g.S.Source.most c.args.source.now in
    let most_after = g.S.Source.most c.next.new.source in
    let inv = c.loop-more.invariant in
    let goes = subst (λ (more : Bool). Goes more left after most most_after inv.ended c.next.new.self) c.if-not-more.true (c.in-Ok-next.ensures.passed left most inv.ended inv.passes) in
    let fits = g.met.S.Source.most_fits c.args.source.now in
    let last = option_copied c.packet.result in
    let final : IsLast inv.ended last c.taken.result = subst (IsLast inv.ended last) (sym c.taken.ensures) (last_is left after most most_after inv.ended c.next.new.self goes fits last c.packet.ensures) in
    let id_is = c.in-Ok-next.ensures.same ∙ inv.id in
    let said = c.end_stream.ensures c.args.walk inv.ended final inv.taken in
    on_read c.taken.result (all_of inv.ended last) (g.W.StreamWalk.reads c.args.walk) (g.W.StreamWalk.refuses c.args.walk) c.end_stream.result said
    (λ read. IsWhole left after most most_after [] (λ file. IsOfId file c.args.id (g.W.StreamWalk.reads c.args.walk) read))
    (λ read is. of_id left after most most_after inv.ended c.next.new.self goes fits last c.packet.ensures c.args.id id_is (g.W.StreamWalk.reads c.args.walk) read
    (subst (λ (n : ℕ). IsOfPackets n (all_of inv.ended last) (g.W.StreamWalk.reads c.args.walk) read) c.taken.ensures is))

pub returns-then-not-more-clause-refused : goal.returns-then-not-more-clause-refused
returns-then-not-more-clause-refused g c =
    let left = g.S.Source.left c.args.source.now in
    let after = g.S.Source.left c.next.new.source in
    let most = g.S.Source.most c.args.source.now in
    let most_after = g.S.Source.most c.next.new.source in
    let inv = c.loop-more.invariant in
    let goes = subst (λ (more : Bool). Goes more left after most most_after inv.ended c.next.new.self) c.if-not-more.true (c.in-Ok-next.ensures.passed left most inv.ended inv.passes) in
    let fits = g.met.S.Source.most_fits c.args.source.now in
    let last = option_copied c.packet.result in
    let final : IsLast inv.ended last c.taken.result = subst (IsLast inv.ended last) (sym c.taken.ensures) (last_is left after most most_after inv.ended c.next.new.self goes fits last c.packet.ensures) in
    let id_is = c.in-Ok-next.ensures.same ∙ inv.id in
    let said = c.end_stream.ensures c.args.walk inv.ended final inv.taken in
    on_refused c.taken.result (all_of inv.ended last) (g.W.StreamWalk.reads c.args.walk) (g.W.StreamWalk.refuses c.args.walk) c.end_stream.result said
    (IsIdRefused left after most most_after c.args.id (g.W.StreamWalk.refuses c.args.walk))
    (λ over. over_limit left after most most_after inv.ended c.next.new.self goes fits last c.packet.ensures c.args.id id_is
    (subst (λ (n : ℕ). IsOver n (all_of inv.ended last)) c.taken.ensures over))
    (λ fault is. of_id left after most most_after inv.ended c.next.new.self goes fits last c.packet.ensures c.args.id id_is (g.W.StreamWalk.refuses c.args.walk) fault
    (subst (λ (n : ℕ). IsOfPackets n (all_of inv.ended last) (g.W.StreamWalk.refuses c.args.walk) fault) c.taken.ensures is)) tt

pub returns-then-not-more-clause-causes : goal.returns-then-not-more-clause-causes
returns-then-not-more-clause-causes g c =
    let left = g.S.Source.left c.args.source.now in
    let after = g.S.Source.left c.next.new.source in
    let most = g.S.Source.most c.args.source.now in
    let most_after = g.S.Source.most c.next.new.source in
    let inv = c.loop-more.invariant in
    let goes = subst (λ (more : Bool). Goes more left after most most_after inv.ended c.next.new.self) c.if-not-more.true (c.in-Ok-next.ensures.passed left most inv.ended inv.passes) in
    let fits = g.met.S.Source.most_fits c.args.source.now in
    let last = option_copied c.packet.result in
    let final : IsLast inv.ended last c.taken.result = subst (IsLast inv.ended last) (sym c.taken.ensures) (last_is left after most most_after inv.ended c.next.new.self goes fits last c.packet.ensures) in
    let id_is = c.in-Ok-next.ensures.same ∙ inv.id in
    let said = c.end_stream.ensures c.args.walk inv.ended final inv.taken in
    let never = never_passing c.taken.result (all_of inv.ended last) (g.W.StreamWalk.reads c.args.walk) (g.W.StreamWalk.refuses c.args.walk) c.end_stream.result said in
    record {
      failed_rose = λ bad. absurd (never _ bad);
      missing_rose = λ bad. absurd (never _ bad);
      faults_grow = omega (arith, inv.faults, c.in-Ok-next.ensures.causes.faults_grow);
      absences_grow = omega (arith, inv.absences, c.in-Ok-next.ensures.causes.absences_grow);
    }
