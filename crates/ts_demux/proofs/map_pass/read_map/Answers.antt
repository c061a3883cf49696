use Rattle.std.proofs.Common.{◌≡◌, ◌<◌, ◌+◌, ◌∙◌, ◌++◌, [], ℕ, List, inl, inr, Ok, Err, length, take, refl, sym, ap, subst, arith, length-drop, length-take-le}
use Rattle.ts_demux.specs.PacketBuffer.{Passes}
use Rattle.ts_demux.specs.Tables.{HasMap, StopsFirst, refuse}
use Rattle.ts_demux.specs.TableWalk.{IsBetween}
use Rattle.ts_demux.proofs.Passing.{passes_none}
use Rattle.ts_demux.proofs.PassSteps.{passes_filled, passes_packet, passes_size, next_count}
use Rattle.ts_demux.proofs.MapSteps.{tables_stop, stands, ends_every, ends_on, ends_map, long_behind, front_missing}
use Rattle.ts_demux.proofs.map_pass.read_map.Goals as goal

pub loop-fault-init : goal.loop-fault-init
loop-fault-init g c = record {
  seen = [];
  passes = subst (λ (held : List ℕ). Passes (g.S.Source.left c.args.source.now) (g.S.Source.left c.args.source.now) (g.S.Source.most c.args.source.now) (g.S.Source.most c.args.source.now) [] [] held)
      (sym c.requires) (passes_none (g.S.Source.left c.args.source.now) (g.S.Source.most c.args.source.now) []);
  count = refl;
  between = λ more. c.new-walk.ensures.between more;
  program = c.new-walk.ensures.program;
  faults = omega arith;
  absences = omega arith;
  keeps = g.met.S.Source.keeps_itself c.args.source.now;
}

pub returns-in_default-clause-refused : goal.returns-in_default-clause-refused
returns-in_default-clause-refused g c =
    let was = c.loop-fault.invariant in
    let short : length c.fill.new.self < 188 = c.in_default.ensures.none in
    inr (record {
      seen = was.seen;
      passes = passes_filled _ _ _ _ _ _ was.seen c.loop-fault.buffer c.fill.new.self was.passes c.in-Ok.ensures.passes;
      end = c.in-Ok.ensures.full short;
      whole = front_missing was.seen c.fill.new.self c.loop-fault.n c.args.program c.loop-fault.walk c.missing.result was.count short
          (was.between c.fill.new.self) was.program c.missing.ensures;
    })

pub take-taken-requires-clause-stands : goal.take-taken-requires-clause-stands
take-taken-requires-clause-stands g c =
    let was = c.loop-fault.invariant in
    stands was.seen (take 188 c.fill.new.self) c.loop-fault.n c.loop-fault.walk c.in-Some.packet.now was.count
    (length-take-le 188 c.fill.new.self c.in-Some.ensures.some.0) c.in-Some.ensures.some.1 was.between

pub pass-requires : goal.pass-requires
pass-requires g c = c.in-Some.ensures.some.0

pub overflow_add-n : goal.overflow_add-n
overflow_add-n g c =
    let was = c.loop-fault.invariant in
    let size = passes_size (g.S.Source.left c.args.source.now) (g.S.Source.left c.loop-fault.source) (g.S.Source.most c.args.source.now) (g.S.Source.most c.loop-fault.source)
    [] was.seen c.loop-fault.buffer was.passes in
    let most = g.met.S.Source.most_fits c.args.source.now in
    omega (arith, size, most, was.count)

pub loop-fault-smaller : goal.loop-fault-smaller
loop-fault-smaller g c =
    let size = passes_size (g.S.Source.left c.loop-fault.source) (g.S.Source.left c.fill.new.source) (g.S.Source.most c.loop-fault.source) (g.S.Source.most c.fill.new.source)
    c.loop-fault.buffer [] c.fill.new.self c.in-Ok.ensures.passes in
    omega (arith, size, ap length c.pass.ensures, length-drop 188 c.fill.new.self, c.in-Some.ensures.some.0)

pub loop-fault-preserved : goal.loop-fault-preserved
loop-fault-preserved g c =
    let was = c.loop-fault.invariant in
    let packet = take 188 c.fill.new.self in
    let size : length packet ≡ 188 = length-take-le 188 c.fill.new.self c.in-Some.ensures.some.0 in
    let every = ends_every was.seen packet c.loop-fault.n c.loop-fault.walk c.in-Some.packet.now was.count size c.in-Some.ensures.some.1 was.between
    (Ok c.in-Ok-None.field-0) (λ (file : List ℕ). IsBetween file (c.loop-fault.n + 1) c.take-taken.new.self × (c.take-taken.new.self.program ≡ c.loop-fault.walk.program)) c.in-Ok-None.ensures.ends in
    let on : (more : List ℕ) → IsBetween ((was.seen ++ packet) ++ more) (c.loop-fault.n + 1) c.take-taken.new.self × (c.take-taken.new.self.program ≡ c.loop-fault.walk.program) =
    λ more. ends_on ((was.seen ++ packet) ++ more) c.loop-fault.walk.program c.in-Ok-None.field-0 _ (every more) c.in-Ok-None.field-0-is in
    record {
      seen = was.seen ++ packet;
      passes = rw c.pass.ensures (passes_packet _ _ _ _ was.seen c.fill.new.self (passes_filled _ _ _ _ _ _ was.seen c.loop-fault.buffer c.fill.new.self was.passes c.in-Ok.ensures.passes));
      count = next_count was.seen packet c.loop-fault.n was.count size;
      between = λ more. (on more).0;
      program = (on []).1 ∙ was.program;
      faults = omega (arith, was.faults, c.in-Ok.ensures.causes.faults_grow);
      absences = omega (arith, was.absences, c.in-Ok.ensures.causes.absences_grow);
      keeps = g.met.S.Source.keeps_on _ _ _ was.keeps c.in-Ok.ensures.keeps;
    }

pub returns-in-Ok-Some-clause-map : goal.returns-in-Ok-Some-clause-map
returns-in-Ok-Some-clause-map g c =
    let was = c.loop-fault.invariant in
    let packet = take 188 c.fill.new.self in
    let size : length packet ≡ 188 = length-take-le 188 c.fill.new.self c.in-Some.ensures.some.0 in
    let every = ends_every was.seen packet c.loop-fault.n c.loop-fault.walk c.in-Some.packet.now was.count size c.in-Some.ensures.some.1 was.between
    (Ok c.in-Ok-Some.field-0) (λ (file : List ℕ). IsBetween file (c.loop-fault.n + 1) c.take-taken.new.self × (c.take-taken.new.self.program ≡ c.loop-fault.walk.program)) c.in-Ok-Some.ensures.ends in
    inl (record {
      seen = was.seen ++ packet;
      passes = rw c.pass.ensures (passes_packet _ _ _ _ was.seen c.fill.new.self (passes_filled _ _ _ _ _ _ was.seen c.loop-fault.buffer c.fill.new.self was.passes c.in-Ok.ensures.passes));
      every = λ more. (
        long_behind (was.seen ++ packet) more c.loop-fault.n (next_count was.seen packet c.loop-fault.n was.count size),
        subst (λ (program : ℕ). HasMap ((was.seen ++ packet) ++ more) program c.in-Ok-Some.map) was.program (ends_map ((was.seen ++ packet) ++ more) c.loop-fault.walk.program c.in-Ok-Some.field-0 c.in-Ok-Some.map
            (IsBetween ((was.seen ++ packet) ++ more) (c.loop-fault.n + 1) c.take-taken.new.self × (c.take-taken.new.self.program ≡ c.loop-fault.walk.program)) (every more) c.in-Ok-Some.field-0-is),
      );
    })

pub returns-in-Err-taken-clause-refused : goal.returns-in-Err-taken-clause-refused
returns-in-Err-taken-clause-refused g c =
    let was = c.loop-fault.invariant in
    let packet = take 188 c.fill.new.self in
    let size : length packet ≡ 188 = length-take-le 188 c.fill.new.self c.in-Some.ensures.some.0 in
    let every = ends_every was.seen packet c.loop-fault.n c.loop-fault.walk c.in-Some.packet.now was.count size c.in-Some.ensures.some.1 was.between
    (Err c.in-Err-taken.fault) (λ (file : List ℕ). IsBetween file (c.loop-fault.n + 1) c.take-taken.new.self × (c.take-taken.new.self.program ≡ c.loop-fault.walk.program)) c.in-Err-taken.ensures.ends in
    inl (record {
      seen = was.seen ++ packet;
      passes = rw c.pass.ensures (passes_packet _ _ _ _ was.seen c.fill.new.self (passes_filled _ _ _ _ _ _ was.seen c.loop-fault.buffer c.fill.new.self was.passes c.in-Ok.ensures.passes));
      every = λ more. inr (
        long_behind (was.seen ++ packet) more c.loop-fault.n (next_count was.seen packet c.loop-fault.n was.count size),
        tables_stop _ _ _ (subst (λ (program : ℕ). StopsFirst ((was.seen ++ packet) ++ more) program (refuse c.in-Err-taken.fault)) was.program (every more)),
      );
    })
