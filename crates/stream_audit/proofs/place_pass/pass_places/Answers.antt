use Rattle.std.proofs.Common.{◌≡◌, ◌<◌, ◌∷◌, ◌++◌, [], ℕ, List, length, take, refl, sym, ap, ◌∙◌, subst, arith, length-drop, length-take-le}
use Rattle.ts_demux.specs.declared.pid_places.Place.{Place}
use Rattle.ts_demux.specs.Demux.{IsStreamFault}
use Rattle.ts_demux.specs.PacketBuffer.{Passes}
use Rattle.ts_demux.specs.PidPlaces.{AddsPlace}
use Rattle.ts_demux.proofs.PassSteps.{next_count, passes_filled, passes_packet, passes_size}
use Rattle.ts_demux.proofs.Passing.{passes_none}
use Rattle.stream_audit.proofs.PlaceSteps.{many, number-few, piece_is, refused-early, stands-all, stands-next, within}
use Rattle.stream_audit.proofs.place_pass.pass_places.Goals as goal

pub packets-init : goal.packets-init
packets-init g c = record {
  seen = [];
  passes = subst (λ (held : List ℕ). Passes (g.S.Source.left c.args.source.now) (g.S.Source.left c.args.source.now) (g.S.Source.most c.args.source.now) (g.S.Source.most c.args.source.now) [] [] held)
      (sym c.requires.empty) (passes_none (g.S.Source.left c.args.source.now) (g.S.Source.most c.args.source.now) []);
  count = refl;
  pid = c.new-reader.ensures.pid;
  every = λ more. record { stands = c.new-reader.ensures.stands more; sound = λ m fault below is. absurd (omega (arith, below)); taken = c.requires.begins };
  faults = omega arith;
  absences = omega arith;
  keeps = g.met.S.Source.keeps_itself c.args.source.now;
}

pub returns-in_default-clause-taken : goal.returns-in_default-clause-taken
returns-in_default-clause-taken g c =
    let was = c.packets.invariant in
    let short : length c.fill.new.self < 188 = c.in_default.ensures.none in
    record {
      seen = was.seen;
      passes = passes_filled _ _ _ _ _ _ was.seen c.packets.buffer c.fill.new.self was.passes c.in-Ok.ensures.passes;
      end = c.in-Ok.ensures.full short;
      whole = stands-all was.seen c.fill.new.self c.args.pid c.packets.n c.packets.reader
          (λ (places : List Place). g.W.PlaceWalk.has_taken c.args.walk.now places c.packets.walk) was.count short (was.every c.fill.new.self);
    }

pub returns-then-n-ge-PACKETS_MOST-clause-refused : goal.returns-then-n-ge-PACKETS_MOST-clause-refused
returns-then-n-ge-PACKETS_MOST-clause-refused g c =
    let was = c.packets.invariant in
    let packet = take 188 c.fill.new.self in
    let size : length packet ≡ 188 = length-take-le 188 c.fill.new.self c.in-Some.ensures.some.0 in
    record {
      seen = was.seen ++ packet;
      passes = rw c.pass.ensures (passes_packet _ _ _ _ was.seen c.fill.new.self (passes_filled _ _ _ _ _ _ was.seen c.packets.buffer c.fill.new.self was.passes c.in-Ok.ensures.passes));
      every = λ more. many was.seen packet more c.args.pid c.packets.n was.count size c.if-n-ge-PACKETS_MOST.true;
    }

pub returns-then-n-ge-PACKETS_MOST-clause-keeps : goal.returns-then-n-ge-PACKETS_MOST-clause-keeps
returns-then-n-ge-PACKETS_MOST-clause-keeps g c = g.met.S.Source.keeps_on _ _ _ c.packets.invariant.keeps c.in-Ok.ensures.keeps

pub hand_on-requires-clause-number : goal.hand_on-requires-clause-number
hand_on-requires-clause-number g c =
    let was = c.packets.invariant in
    let packet = take 188 c.fill.new.self in
    let size : length packet ≡ 188 = length-take-le 188 c.fill.new.self c.in-Some.ensures.some.0 in
    let file = was.seen ++ (packet ++ []) in
    let adds : AddsPlace file c.args.pid c.packets.n c.in-Ok-taken.found =
    subst (λ pid. AddsPlace file pid c.packets.n c.in-Ok-taken.found) was.pid
    (c.in-Ok-taken.ensures.taken file (within was.seen packet [] c.args.pid c.packets.n was.count size)
    (piece_is was.seen packet [] c.args.pid c.packets.n was.count size c.in-Some.packet.now c.in-Some.ensures.some.1) (was.every (packet ++ [])).stands)
    in
    number-few file c.args.pid c.packets.n c.in-Ok-taken.found adds (omega (arith, c.if-n-ge-PACKETS_MOST.false))

pub packets-smaller : goal.packets-smaller
packets-smaller g c =
    let size = passes_size (g.S.Source.left c.packets.source) (g.S.Source.left c.fill.new.source) (g.S.Source.most c.packets.source) (g.S.Source.most c.fill.new.source)
    c.packets.buffer [] c.fill.new.self c.in-Ok.ensures.passes in
    omega (arith, size, ap length c.pass.ensures, length-drop 188 c.fill.new.self, c.in-Some.ensures.some.0)

pub packets-preserved : goal.packets-preserved
packets-preserved g c =
    let was = c.packets.invariant in
    let packet = take 188 c.fill.new.self in
    let size : length packet ≡ 188 = length-take-le 188 c.fill.new.self c.in-Some.ensures.some.0 in
    let n = c.packets.n in
    let pid = c.args.pid in
    let found = c.in-Ok-taken.found in
    record {
      seen = was.seen ++ packet;
      passes = rw c.pass.ensures (passes_packet _ _ _ _ was.seen c.fill.new.self (passes_filled _ _ _ _ _ _ was.seen c.packets.buffer c.fill.new.self was.passes c.in-Ok.ensures.passes));
      count = next_count was.seen packet n was.count size;
      pid = c.in-Ok-taken.ensures.pid ∙ was.pid;
      every = λ more.
          let file = was.seen ++ (packet ++ more) in
          let stood = was.every (packet ++ more) in
          let bytes_are = piece_is was.seen packet more pid n was.count size c.in-Some.packet.now c.in-Some.ensures.some.1 in
          let here = within was.seen packet more pid n was.count size in
          let adds : AddsPlace file pid n found = subst (λ p. AddsPlace file p n found) was.pid (c.in-Ok-taken.ensures.taken file here bytes_are stood.stands) in
          stands-next was.seen packet more pid n was.count size c.packets.reader c.take-taken.new.self found
          (λ (places : List Place). g.W.PlaceWalk.has_taken c.args.walk.now places c.packets.walk)
          (λ (places : List Place). g.W.PlaceWalk.has_taken c.args.walk.now places c.hand_on.new.walk)
          stood adds (c.in-Ok-taken.ensures.behind file here bytes_are stood.stands) (λ places taken. c.hand_on.ensures c.args.walk.now places taken);
      faults = omega (arith, was.faults, c.in-Ok.ensures.causes.faults_grow);
      absences = omega (arith, was.absences, c.in-Ok.ensures.causes.absences_grow);
      keeps = g.met.S.Source.keeps_on _ _ _ was.keeps c.in-Ok.ensures.keeps;
    }

pub returns-in-Err-taken-clause-refused : goal.returns-in-Err-taken-clause-refused
returns-in-Err-taken-clause-refused g c =
    let was = c.packets.invariant in
    let packet = take 188 c.fill.new.self in
    let size : length packet ≡ 188 = length-take-le 188 c.fill.new.self c.in-Some.ensures.some.0 in
    let n = c.packets.n in
    let pid = c.args.pid in
    let fault = c.in-Err-taken.fault in
    record {
      seen = was.seen ++ packet;
      passes = rw c.pass.ensures (passes_packet _ _ _ _ was.seen c.fill.new.self (passes_filled _ _ _ _ _ _ was.seen c.packets.buffer c.fill.new.self was.passes c.in-Ok.ensures.passes));
      every = λ more.
          let file = was.seen ++ (packet ++ more) in
          let stood = was.every (packet ++ more) in
          let is : IsStreamFault file (pid ∷ []) n fault =
          subst (λ p. IsStreamFault file (p ∷ []) n fault) was.pid
          (c.in-Err-taken.ensures.taken file (within was.seen packet more pid n was.count size)
          (piece_is was.seen packet more pid n was.count size c.in-Some.packet.now c.in-Some.ensures.some.1) stood.stands)
          in
          refused-early was.seen packet more pid n was.count size c.packets.reader fault (λ (places : List Place). g.W.PlaceWalk.has_taken c.args.walk.now places c.packets.walk) stood is;
    }

pub returns-in-Err-taken-clause-keeps : goal.returns-in-Err-taken-clause-keeps
returns-in-Err-taken-clause-keeps g c = g.met.S.Source.keeps_on _ _ _ c.packets.invariant.keeps c.in-Ok.ensures.keeps
