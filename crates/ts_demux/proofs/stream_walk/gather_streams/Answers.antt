use Rattle.std.proofs.Common.{◌≡◌, ◌<◌, ◌+◌, ◌∙◌, ◌++◌, [], ℕ, List, inl, inr, length, map, take, refl, sym, ap, subst, arith, length-drop, length-take-le, append_assoc}
use Rattle.psi_tables.specs.declared.stream.Stream.{Stream}
use Rattle.ts_demux.specs.PacketBuffer.{Passes}
use Rattle.ts_demux.specs.CarriedPackets.{AreDistinct, pids_read}
use Rattle.ts_demux.specs.Private.StreamWalk.{GathersUpTo}
use Rattle.ts_demux.proofs.Passing.{passes_none}
use Rattle.ts_demux.proofs.PassSteps.{passes_filled, passes_packet, passes_size, next_count, next_within, next_piece}
use Rattle.ts_demux.proofs.GatherSteps.{gathered_at_end, refused_early}
use Rattle.ts_demux.proofs.stream_walk.gather_streams.Goals as goal

pub loop-fault-init : goal.loop-fault-init
loop-fault-init g c = record {
  seen = [];
  passes = subst (λ (held : List ℕ). Passes (g.S.Source.left c.args.source.now) (g.S.Source.left c.args.source.now) (g.S.Source.most c.args.source.now) (g.S.Source.most c.args.source.now) [] [] held)
      (sym c.requires.empty) (passes_none (g.S.Source.left c.args.source.now) (g.S.Source.most c.args.source.now) []);
  count = refl;
  pids = c.in-Ok.ensures.0;
  beside = c.in-Ok.ensures.1;
  gathers = λ more. c.in-Ok.ensures.2 more;
  faults = omega arith;
  absences = omega arith;
  keeps = g.met.S.Source.keeps_itself c.args.source.now;
}

pub returns-in_default-clause-gathered : goal.returns-in_default-clause-gathered
returns-in_default-clause-gathered g c =
    let was = c.loop-fault.invariant in
    let short : length c.fill.new.self < 188 = c.in_default.ensures.none in
    record {
      seen = was.seen;
      passes = passes_filled _ _ _ _ _ _ was.seen c.loop-fault.buffer c.fill.new.self was.passes c.in-Ok-fill.ensures.passes;
      end = c.in-Ok-fill.ensures.full short;
      whole = gathered_at_end was.seen c.fill.new.self c.loop-fault.n (map (λ (stream : Stream). stream.pid) c.args.streams.now) c.loop-fault.walk was.count short was.pids was.beside (was.gathers c.fill.new.self);
    }

pub take-taken-requires-clause-distinct : goal.take-taken-requires-clause-distinct
take-taken-requires-clause-distinct g c = subst (λ (pids : List ℕ). AreDistinct pids) (sym c.loop-fault.invariant.pids) c.requires.distinct

pub take-taken-requires-clause-stands : goal.take-taken-requires-clause-stands
take-taken-requires-clause-stands g c = (c.loop-fault.invariant.seen ++ [], c.loop-fault.invariant.gathers [])

pub overflow_add-n : goal.overflow_add-n
overflow_add-n g c =
    let was = c.loop-fault.invariant in
    let size = passes_size (g.S.Source.left c.args.source.now) (g.S.Source.left c.loop-fault.source) (g.S.Source.most c.args.source.now) (g.S.Source.most c.loop-fault.source)
    [] was.seen c.loop-fault.buffer was.passes in
    let most = g.met.S.Source.most_fits c.args.source.now in
    omega (arith, size, most, was.count)

pub loop-fault-smaller : goal.loop-fault-smaller
loop-fault-smaller g c =
    let size = passes_size (g.S.Source.left c.loop-fault.source) (g.S.Source.left c.fill.new.source) (g.S.Source.most c.loop-fault.source) (g.S.Source.most c.fill.new.source)
    c.loop-fault.buffer [] c.fill.new.self c.in-Ok-fill.ensures.passes in
    omega (arith, size, ap length c.pass.ensures, length-drop 188 c.fill.new.self, c.in-Some.ensures.some.0)

pub loop-fault-preserved : goal.loop-fault-preserved
loop-fault-preserved g c =
    let was = c.loop-fault.invariant in
    let packet = take 188 c.fill.new.self in
    let size : length packet ≡ 188 = length-take-le 188 c.fill.new.self c.in-Some.ensures.some.0 in
    record {
      seen = was.seen ++ packet;
      passes = rw c.pass.ensures (passes_packet _ _ _ _ was.seen c.fill.new.self (passes_filled _ _ _ _ _ _ was.seen c.loop-fault.buffer c.fill.new.self was.passes c.in-Ok-fill.ensures.passes));
      count = next_count was.seen packet c.loop-fault.n was.count size;
      pids = c.in-Ok-taken.ensures.pids.0 ∙ was.pids;
      beside = c.in-Ok-taken.ensures.pids.1;
      gathers = λ more. subst (λ (file : List ℕ). GathersUpTo file (c.loop-fault.n + 1) c.take-taken.new.self) (sym (append_assoc was.seen packet more))
          (c.in-Ok-taken.ensures.taken (was.seen ++ (packet ++ more)) (next_within was.seen packet more c.loop-fault.n was.count size)
          (c.in-Some.ensures.some.1 ∙ next_piece was.seen packet more c.loop-fault.n was.count size) (was.gathers (packet ++ more)));
      faults = omega (arith, was.faults, c.in-Ok-fill.ensures.causes.faults_grow);
      absences = omega (arith, was.absences, c.in-Ok-fill.ensures.causes.absences_grow);
      keeps = g.met.S.Source.keeps_on _ _ _ was.keeps c.in-Ok-fill.ensures.keeps;
    }

pub returns-in-Err-taken-clause-refused : goal.returns-in-Err-taken-clause-refused
returns-in-Err-taken-clause-refused g c =
    let was = c.loop-fault.invariant in
    let packet = take 188 c.fill.new.self in
    let size : length packet ≡ 188 = length-take-le 188 c.fill.new.self c.in-Some.ensures.some.0 in
    elim c.in-Err-taken.ensures.refused [
      | inl memory ↦ inl memory
      | inr first ↦ inr (record {
        seen = was.seen ++ packet;
        passes = rw c.pass.ensures (passes_packet _ _ _ _ was.seen c.fill.new.self (passes_filled _ _ _ _ _ _ was.seen c.loop-fault.buffer c.fill.new.self was.passes c.in-Ok-fill.ensures.passes));
        every = λ more. refused_early was.seen packet more (pids_read c.loop-fault.walk.packets) (map (λ (stream : Stream). stream.pid) c.args.streams.now) c.in-Err-taken.fault was.pids
            (first (was.seen ++ (packet ++ more)) (next_within was.seen packet more c.loop-fault.n was.count size)
            (c.in-Some.ensures.some.1 ∙ next_piece was.seen packet more c.loop-fault.n was.count size) (was.gathers (packet ++ more)));
      })
    ]
