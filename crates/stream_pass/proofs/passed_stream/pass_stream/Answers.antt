use Rattle.std.proofs.Common.{◌≡◌, ◌+◌, ◌*◌, ◌++◌, ◌∷◌, [], ℕ, Bool, List, length, map, sym, ap, subst, ◌∙◌, arith}
use Rattle.psi_tables.specs.declared.stream.Stream.{Stream}
use Rattle.ts_demux.specs.CarriedPackets.{AreDistinct}
use Rattle.std.specs.Option.{option_copied}
use Rattle.pes_passing.specs.PassingPackets.{Goes, HasPassed, pids_of}
use Rattle.stream_pass.specs.PassedStream.{IsOfStream, IsReadRefused}
use Rattle.ts_demux.specs.Pass.{IsWhole}
use Rattle.stream_pass.specs.Private.Passed.{all_of}
use Rattle.stream_pass.proofs.Passed.{never_passing, on_read, on_refused}
use Rattle.stream_pass.proofs.Streams.{end_place, last_is, more_counted, next_is, of_stream, over_limit, passing_refused}
use Rattle.stream_pass.proofs.passed_stream.pass_stream.Goals as goal

pub loop-more-init : goal.loop-more-init
loop-more-init g c =
    let left = g.S.Source.left c.args.source.now in
    let most = g.S.Source.most c.args.source.now in
    record {
      ended = [];
      passes = subst (λ (held : List ℕ). HasPassed left left most most held [] c.in-Ok.packets) (sym c.requires.empty)
          (c.in-Ok.ensures.passed left most (g.met.S.Source.most_fits c.args.source.now));
      taken = c.begin-passed.ensures;
      pids = c.in-Ok.ensures.streams.0;
      index = c.in-Ok.ensures.streams.1;
      faults = omega arith;
      absences = omega arith;
      keeps = g.met.S.Source.keeps_itself c.args.source.now;
    }

pub next-requires-clause-distinct : goal.next-requires-clause-distinct
next-requires-clause-distinct g c = subst AreDistinct (sym c.loop-more.invariant.pids) c.requires.distinct

pub next-requires-clause-stands : goal.next-requires-clause-stands
next-requires-clause-stands g c =
    (g.S.Source.left c.args.source.now, g.S.Source.most c.args.source.now, c.loop-more.invariant.ended, c.loop-more.invariant.passes)

pub take_packet-requires : goal.take_packet-requires
take_packet-requires g c =
    let left = g.S.Source.left c.args.source.now in
    let most = g.S.Source.most c.args.source.now in
    let inv = c.loop-more.invariant in
    let goes = subst (λ (more : Bool). Goes more left (g.S.Source.left c.next.new.source) most (g.S.Source.most c.next.new.source) c.next.new.buffer inv.ended c.next.new.self)
    c.if-not-more.false (c.in-Ok-next.ensures.passed left most inv.ended inv.passes) in (
      c.args.walk,
      inv.ended,
      goes.0,
      next_is left (g.S.Source.left c.next.new.source) most (g.S.Source.most c.next.new.source) c.next.new.buffer inv.ended c.next.new.self goes.0 (option_copied c.packet-in-loop-more.result) c.packet-in-loop-more.ensures goes.1 goes.2,
      inv.taken,
    )

pub loop-more-preserved : goal.loop-more-preserved
loop-more-preserved g c =
    let left = g.S.Source.left c.args.source.now in
    let most = g.S.Source.most c.args.source.now in
    let inv = c.loop-more.invariant in
    let said = c.in-Ok-next.ensures in
    let goes = subst (λ (more : Bool). Goes more left (g.S.Source.left c.next.new.source) most (g.S.Source.most c.next.new.source) c.next.new.buffer inv.ended c.next.new.self)
    c.if-not-more.false (said.passed left most inv.ended inv.passes) in
    record {
      ended = inv.ended ++ goes.0 ∷ [];
      passes = goes.2;
      taken = c.in-Ok-take_packet.ensures c.args.walk inv.ended goes.0
          (next_is left (g.S.Source.left c.next.new.source) most (g.S.Source.most c.next.new.source) c.next.new.buffer inv.ended c.next.new.self goes.0 (option_copied c.packet-in-loop-more.result) c.packet-in-loop-more.ensures goes.1 goes.2)
          inv.taken;
      pids = said.same.0 ∙ inv.pids;
      index = said.same.1 ∙ inv.index;
      faults = omega (arith, inv.faults, said.causes.faults_grow);
      absences = omega (arith, inv.absences, said.causes.absences_grow);
      keeps = g.met.S.Source.keeps_on c.args.source.now c.loop-more.source c.next.new.source inv.keeps said.keeps;
    }

pub loop-more-smaller : goal.loop-more-smaller
loop-more-smaller g c =
    let left = g.S.Source.left c.args.source.now in
    let most = g.S.Source.most c.args.source.now in
    let inv = c.loop-more.invariant in
    let goes = subst (λ (more : Bool). Goes more left (g.S.Source.left c.next.new.source) most (g.S.Source.most c.next.new.source) c.next.new.buffer inv.ended c.next.new.self)
    c.if-not-more.false (c.in-Ok-next.ensures.passed left most inv.ended inv.passes) in
    let counted = more_counted left (g.S.Source.left c.loop-more.source) (g.S.Source.left c.next.new.source) most (g.S.Source.most c.loop-more.source) (g.S.Source.most c.next.new.source)
    c.loop-more.buffer c.next.new.buffer inv.ended goes.0 c.loop-more.packets c.next.new.self inv.passes goes.2 in
    omega (arith, counted.0, counted.1)

pub returns-in-Err-next-clause-refused : goal.returns-in-Err-next-clause-refused
returns-in-Err-next-clause-refused g c =
    let left = g.S.Source.left c.args.source.now in
    let most = g.S.Source.most c.args.source.now in
    let inv = c.loop-more.invariant in
    passing_refused (g.W.StreamWalk.refuses c.args.walk) left (g.S.Source.left c.next.new.source) most (g.S.Source.most c.next.new.source) c.next.new.buffer (pids_of c.loop-more.packets)
    (map (λ (stream : Stream). stream.pid) c.args.streams.now) c.args.index c.in-Err-next.fault inv.pids (c.in-Err-next.ensures.refused left most inv.ended inv.passes)

pub overflow_mul-bytes : goal.overflow_mul-bytes
overflow_mul-bytes g c =
    let left = g.S.Source.left c.args.source.now in
    let after = g.S.Source.left c.next.new.source in
    let most = g.S.Source.most c.args.source.now in
    let most_after = g.S.Source.most c.next.new.source in
    let inv = c.loop-more.invariant in
    let goes = subst (λ (more : Bool). Goes more left after most most_after c.next.new.buffer inv.ended c.next.new.self) c.if-not-more.true (c.in-Ok-next.ensures.passed left most inv.ended inv.passes) in
    let place = end_place left after most most_after c.next.new.buffer inv.ended c.next.new.self goes (g.met.S.Source.most_fits c.args.source.now) in
    omega (arith, place, c.packets_read.ensures)

pub overflow_add-bytes : goal.overflow_add-bytes
overflow_add-bytes g c =
    let left = g.S.Source.left c.args.source.now in
    let after = g.S.Source.left c.next.new.source in
    let most = g.S.Source.most c.args.source.now in
    let most_after = g.S.Source.most c.next.new.source in
    let inv = c.loop-more.invariant in
    let goes = subst (λ (more : Bool). Goes more left after most most_after c.next.new.buffer inv.ended c.next.new.self) c.if-not-more.true (c.in-Ok-next.ensures.passed left most inv.ended inv.passes) in
    let place = end_place left after most most_after c.next.new.buffer inv.ended c.next.new.self goes (g.met.S.Source.most_fits c.args.source.now) in
    omega (arith, place, c.packets_read.ensures, ap length c.rest.ensures)

pub end_stream-requires : goal.end_stream-requires
end_stream-requires g c =
    let left = g.S.Source.left c.args.source.now in
    let after = g.S.Source.left c.next.new.source in
    let most = g.S.Source.most c.args.source.now in
    let most_after = g.S.Source.most c.next.new.source in
    let inv = c.loop-more.invariant in
    let goes = subst (λ (more : Bool). Goes more left after most most_after c.next.new.buffer inv.ended c.next.new.self) c.if-not-more.true (c.in-Ok-next.ensures.passed left most inv.ended inv.passes) in
    let fits = g.met.S.Source.most_fits c.args.source.now in
    let bytes = c.packets_read.result * 188 + length c.rest.result.now in
    let last = option_copied c.packet.result in
    let bytes_are : bytes ≡ 188 * c.next.new.self.read + length c.next.new.buffer = omega (arith, c.packets_read.ensures, ap length c.rest.ensures) in
    (c.args.walk, inv.ended, last_is left after most most_after c.next.new.buffer inv.ended c.next.new.self goes fits bytes last bytes_are c.packet.ensures, inv.taken)

pub returns-then-not-more-clause-read : goal.returns-then-not-more-clause-read
returns-then-not-more-clause-read g c =
    let left = g.S.Source.left c.args.source.now in
    let after = g.S.Source.left c.next.new.source in
    let most = g.S.Source.most c.args.source.now in
    let most_after = g.S.Source.most c.next.new.source in
    let inv = c.loop-more.invariant in
    let goes = subst (λ (more : Bool). Goes more left after most most_after c.next.new.buffer inv.ended c.next.new.self) c.if-not-more.true (c.in-Ok-next.ensures.passed left most inv.ended inv.passes) in
    let fits = g.met.S.Source.most_fits c.args.source.now in
    let bytes = c.packets_read.result * 188 + length c.rest.result.now in
    let last = option_copied c.packet.result in
    let bytes_are : bytes ≡ 188 * c.next.new.self.read + length c.next.new.buffer = omega (arith, c.packets_read.ensures, ap length c.rest.ensures) in
    let pids = map (λ (stream : Stream). stream.pid) c.args.streams.now in
    let same = c.in-Ok-next.ensures.same in
    let said = c.end_stream.ensures c.args.walk inv.ended (last_is left after most most_after c.next.new.buffer inv.ended c.next.new.self goes fits bytes last bytes_are c.packet.ensures) inv.taken in
    on_read bytes (all_of inv.ended last) (g.W.StreamWalk.reads c.args.walk) (g.W.StreamWalk.refuses c.args.walk) c.end_stream.result said
    (λ read. IsWhole left after most most_after c.next.new.buffer (λ file. IsOfStream file pids c.args.index (g.W.StreamWalk.reads c.args.walk) read))
    (λ read is. of_stream left after most most_after c.next.new.buffer inv.ended c.next.new.self goes fits bytes last bytes_are c.packet.ensures pids c.args.index
    (same.0 ∙ inv.pids) (same.1 ∙ inv.index) (g.W.StreamWalk.reads c.args.walk) read is)

pub returns-then-not-more-clause-refused : goal.returns-then-not-more-clause-refused
returns-then-not-more-clause-refused g c =
    let left = g.S.Source.left c.args.source.now in
    let after = g.S.Source.left c.next.new.source in
    let most = g.S.Source.most c.args.source.now in
    let most_after = g.S.Source.most c.next.new.source in
    let inv = c.loop-more.invariant in
    let goes = subst (λ (more : Bool). Goes more left after most most_after c.next.new.buffer inv.ended c.next.new.self) c.if-not-more.true (c.in-Ok-next.ensures.passed left most inv.ended inv.passes) in
    let fits = g.met.S.Source.most_fits c.args.source.now in
    let bytes = c.packets_read.result * 188 + length c.rest.result.now in
    let last = option_copied c.packet.result in
    let bytes_are : bytes ≡ 188 * c.next.new.self.read + length c.next.new.buffer = omega (arith, c.packets_read.ensures, ap length c.rest.ensures) in
    let pids = map (λ (stream : Stream). stream.pid) c.args.streams.now in
    let same = c.in-Ok-next.ensures.same in
    let said = c.end_stream.ensures c.args.walk inv.ended (last_is left after most most_after c.next.new.buffer inv.ended c.next.new.self goes fits bytes last bytes_are c.packet.ensures) inv.taken in
    on_refused bytes (all_of inv.ended last) (g.W.StreamWalk.reads c.args.walk) (g.W.StreamWalk.refuses c.args.walk) c.end_stream.result said
    (IsReadRefused left after most most_after c.next.new.buffer pids c.args.index (g.W.StreamWalk.refuses c.args.walk))
    (λ over. over_limit left after most most_after c.next.new.buffer inv.ended c.next.new.self goes fits bytes last bytes_are c.packet.ensures pids c.args.index
    (same.0 ∙ inv.pids) (same.1 ∙ inv.index) over)
    (λ fault is. of_stream left after most most_after c.next.new.buffer inv.ended c.next.new.self goes fits bytes last bytes_are c.packet.ensures pids c.args.index
    (same.0 ∙ inv.pids) (same.1 ∙ inv.index) (g.W.StreamWalk.refuses c.args.walk) fault is) tt

pub returns-then-not-more-clause-causes : goal.returns-then-not-more-clause-causes
returns-then-not-more-clause-causes g c =
    let left = g.S.Source.left c.args.source.now in
    let after = g.S.Source.left c.next.new.source in
    let most = g.S.Source.most c.args.source.now in
    let most_after = g.S.Source.most c.next.new.source in
    let inv = c.loop-more.invariant in
    let goes = subst (λ (more : Bool). Goes more left after most most_after c.next.new.buffer inv.ended c.next.new.self) c.if-not-more.true (c.in-Ok-next.ensures.passed left most inv.ended inv.passes) in
    let fits = g.met.S.Source.most_fits c.args.source.now in
    let bytes = c.packets_read.result * 188 + length c.rest.result.now in
    let last = option_copied c.packet.result in
    let bytes_are : bytes ≡ 188 * c.next.new.self.read + length c.next.new.buffer = omega (arith, c.packets_read.ensures, ap length c.rest.ensures) in
    let pids = map (λ (stream : Stream). stream.pid) c.args.streams.now in
    let same = c.in-Ok-next.ensures.same in
    let said = c.end_stream.ensures c.args.walk inv.ended (last_is left after most most_after c.next.new.buffer inv.ended c.next.new.self goes fits bytes last bytes_are c.packet.ensures) inv.taken in
    let never = never_passing bytes (all_of inv.ended last) (g.W.StreamWalk.reads c.args.walk) (g.W.StreamWalk.refuses c.args.walk) c.end_stream.result said in
    record {
      failed_rose = λ bad. absurd (never _ bad);
      missing_rose = λ bad. absurd (never _ bad);
      faults_grow = omega (arith, inv.faults, c.in-Ok-next.ensures.causes.faults_grow);
      absences_grow = omega (arith, inv.absences, c.in-Ok-next.ensures.causes.absences_grow);
    }
