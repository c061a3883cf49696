use Rattle.std.proofs.Common.{◌≡◌, ◌+◌, ◌++◌, ◌∷◌, [], ℕ, Bool, true, false, List, Option, Some, length, map, slice_get, sym, subst, refl, ap, ◌∙◌, arith, length-append}
use Rattle.std.specs.Option.{option_to_list}
use Rattle.psi_tables.specs.declared.stream.Stream.{Stream}
use Rattle.ts_demux.specs.declared.demuxed.PesUnit.{PesUnit}
use Rattle.ts_demux.specs.CarriedPackets.{AreDistinct}
use Rattle.pes_passing.specs.PassingPackets.{Goes, HasPassed, index_of, pids_of}
use Rattle.pes_passing.proofs.Passing.{within}
use Rattle.pes_passing_tests.proofs.passing_tests.all_packets.Goals as goal

pub loop-more-init : goal.loop-more-init
loop-more-init g c =
    let left = g.S.Source.left c.args.source.now in
    let most = g.S.Source.most c.args.source.now in
    record {
      passed = subst (λ (items : List PesUnit). HasPassed left left most most c.args.buffer.now items c.in-Ok.packets) (sym c.new-units.ensures.items)
          (subst (λ (held : List ℕ). HasPassed left left most most held [] c.in-Ok.packets) (sym c.requires.empty)
          (c.in-Ok.ensures.passed left most (g.met.S.Source.most_fits c.args.source.now)));
      pids = c.in-Ok.ensures.streams.0;
      index = c.in-Ok.ensures.streams.1;
    }

pub loop-more-preserved : goal.loop-more-preserved
loop-more-preserved g c =
    let left = g.S.Source.left c.args.source.now in
    let most = g.S.Source.most c.args.source.now in
    let units = c.loop-more.units.items in
    let goes = subst (λ (more : Bool). Goes more left (g.S.Source.left c.next.new.source) most (g.S.Source.most c.next.new.source) c.next.new.buffer units c.next.new.self)
    c.if-not-more.false (c.in-Ok-next.ensures.passed left most units c.loop-more.invariant.passed) in
    record {
      passed = subst (λ (items : List PesUnit). HasPassed left (g.S.Source.left c.next.new.source) most (g.S.Source.most c.next.new.source) c.next.new.buffer items c.next.new.self)
          (sym (c.in-Ok-push_copy.ensures ∙ ap (λ (packet : Option PesUnit). units ++ option_to_list packet) (c.packet.ensures ∙ goes.1))) goes.2;
      pids = c.in-Ok-next.ensures.same.0 ∙ c.loop-more.invariant.pids;
      index = c.in-Ok-next.ensures.same.1 ∙ c.loop-more.invariant.index;
    }

pub loop-more-smaller : goal.loop-more-smaller
loop-more-smaller g c =
    let left = g.S.Source.left c.args.source.now in
    let most = g.S.Source.most c.args.source.now in
    let units = c.loop-more.units.items in
    let goes = subst (λ (more : Bool). Goes more left (g.S.Source.left c.next.new.source) most (g.S.Source.most c.next.new.source) c.next.new.buffer units c.next.new.self)
    c.if-not-more.false (c.in-Ok-next.ensures.passed left most units c.loop-more.invariant.passed) in
    let few = within left (g.S.Source.left c.next.new.source) most (g.S.Source.most c.next.new.source) c.next.new.buffer (units ++ goes.0 ∷ []) c.next.new.self goes.2 in
    let old = c.loop-more.invariant.passed.every [] in
    let new = goes.2.every [] in
    omega (arith, few.0, few.1, old.count_is, new.count_is, length-append units (goes.0 ∷ []))

pub next-requires-clause-distinct : goal.next-requires-clause-distinct
next-requires-clause-distinct g c = subst AreDistinct (sym c.loop-more.invariant.pids) c.requires.distinct

pub next-requires-clause-stands : goal.next-requires-clause-stands
next-requires-clause-stands g c = (g.S.Source.left c.args.source.now, g.S.Source.most c.args.source.now, c.loop-more.units.items, c.loop-more.invariant.passed)

pub returns-then-not-more : goal.returns-then-not-more
returns-then-not-more g c =
    let left = g.S.Source.left c.args.source.now in
    let most = g.S.Source.most c.args.source.now in
    let units = c.loop-more.units.items in
    let goes = subst (λ (more : Bool). Goes more left (g.S.Source.left c.next.new.source) most (g.S.Source.most c.next.new.source) c.next.new.buffer units c.next.new.self)
    c.if-not-more.true (c.in-Ok-next.ensures.passed left most units c.loop-more.invariant.passed) in
    let pids : pids_of c.next.new.self ≡ map (λ (stream : Stream). stream.pid) c.args.streams.now = c.in-Ok-next.ensures.same.0 ∙ c.loop-more.invariant.pids in
    let index : index_of c.next.new.self ≡ c.args.index = c.in-Ok-next.ensures.same.1 ∙ c.loop-more.invariant.index in
    record {
      seen = goes.seen;
      passes = goes.passes;
      end = goes.end;
      whole = (
        goes.whole.0.pid,
        sym (ap (λ (ps : List ℕ). slice_get ps c.args.index) pids) ∙ sym (ap (slice_get (pids_of c.next.new.self)) index) ∙ goes.whole.0.pid_is,
        c.in-Ok-push_copy.ensures ∙ ap (λ (packet : Option PesUnit). units ++ option_to_list packet) c.packet.ensures ∙ sym goes.whole.0.split.packets,
      );
    }
