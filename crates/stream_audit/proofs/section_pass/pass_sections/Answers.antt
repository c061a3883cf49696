use Rattle.std.proofs.Common.{◌≡◌, ◌<◌, ◌++◌, [], ℕ, All, List, length, take, refl, sym, ap, ◌∙◌, subst, arith, length-drop, length-take-le}
use Rattle.tstd_model.specs.PacketBytes.{HasHeaderWithin}
use Rattle.ts_demux.specs.PacketBuffer.{Passes}
use Rattle.ts_demux.proofs.PassSteps.{next_count, next_piece, next_within, passes_filled, passes_packet, passes_size}
use Rattle.ts_demux.proofs.Passing.{passes_none}
use Rattle.stream_audit.specs.Private.Sections.{AddsSection}
use Rattle.stream_audit.proofs.PlaceSteps.{many}
use Rattle.stream_audit.proofs.SectionSteps.{lists-all, lists-next, section-few, section-refused}
use Rattle.stream_audit.proofs.section_pass.pass_sections.Goals as goal

pub packets-init : goal.packets-init
packets-init g c = record {
  seen = [];
  passes = subst (λ (held : List ℕ). Passes (g.S.Source.left c.args.source.now) (g.S.Source.left c.args.source.now) (g.S.Source.most c.args.source.now) (g.S.Source.most c.args.source.now) [] [] held)
      (sym c.requires.empty) (passes_none (g.S.Source.left c.args.source.now) (g.S.Source.most c.args.source.now) []);
  count = refl;
  every = λ more. record {
    stand = c.new-readers.ensures more;
    pat_sound = λ m fault below is. absurd (omega (arith, below));
    map_sound = λ m fault below is. absurd (omega (arith, below));
    arrivals_are = c.new-arrivals.ensures;
  };
  headers = subst (λ arrivals. All HasHeaderWithin arrivals) (sym c.new-arrivals.ensures) (λ k arrival less. absurd (omega (arith, less)));
  faults = omega arith;
  absences = omega arith;
  keeps = g.met.S.Source.keeps_itself c.args.source.now;
}

pub returns-in_default-clause-sections : goal.returns-in_default-clause-sections
returns-in_default-clause-sections g c =
    let was = c.packets.invariant in
    let short : length c.fill.new.self < 188 = c.in_default.ensures.none in
    record {
      seen = was.seen;
      passes = passes_filled _ _ _ _ _ _ was.seen c.packets.buffer c.fill.new.self was.passes c.in-Ok.ensures.passes;
      end = c.in-Ok.ensures.full short;
      whole = lists-all was.seen c.fill.new.self c.args.map_pid c.packets.n c.packets.readers c.packets.arrivals was.count short (was.every c.fill.new.self);
    }

pub returns-then-n-ge-PACKETS_MOST-clause-refused : goal.returns-then-n-ge-PACKETS_MOST-clause-refused
returns-then-n-ge-PACKETS_MOST-clause-refused g c =
    let was = c.packets.invariant in
    let packet = take 188 c.fill.new.self in
    let size : length packet ≡ 188 = length-take-le 188 c.fill.new.self c.in-Some.ensures.some.0 in
    record {
      seen = was.seen ++ packet;
      passes = rw c.pass.ensures (passes_packet _ _ _ _ was.seen c.fill.new.self (passes_filled _ _ _ _ _ _ was.seen c.packets.buffer c.fill.new.self was.passes c.in-Ok.ensures.passes));
      every = λ more. many was.seen packet more 0 c.packets.n was.count size c.if-n-ge-PACKETS_MOST.true;
    }

pub returns-then-n-ge-PACKETS_MOST-clause-keeps : goal.returns-then-n-ge-PACKETS_MOST-clause-keeps
returns-then-n-ge-PACKETS_MOST-clause-keeps g c = g.met.S.Source.keeps_on _ _ _ c.packets.invariant.keeps c.in-Ok.ensures.keeps

pub push_section-requires-clause-few : goal.push_section-requires-clause-few
push_section-requires-clause-few g c =
    let was = c.packets.invariant in
    let packet = take 188 c.fill.new.self in
    let size : length packet ≡ 188 = length-take-le 188 c.fill.new.self c.in-Some.ensures.some.0 in
    let file = was.seen ++ (packet ++ []) in
    let n = c.packets.n in
    let adds : AddsSection file c.args.map_pid n c.in-Ok-taken.found =
    c.in-Ok-taken.ensures.taken file c.args.map_pid (next_within was.seen packet [] n was.count size)
    (c.in-Some.ensures.some.1 ∙ next_piece was.seen packet [] n was.count size) (was.every (packet ++ [])).stand
    in
    section-few file c.args.map_pid n c.in-Ok-taken.found adds (omega (arith, c.if-n-ge-PACKETS_MOST.false))

pub packets-smaller : goal.packets-smaller
packets-smaller g c =
    let size = passes_size (g.S.Source.left c.packets.source) (g.S.Source.left c.fill.new.source) (g.S.Source.most c.packets.source) (g.S.Source.most c.fill.new.source)
    c.packets.buffer [] c.fill.new.self c.in-Ok.ensures.passes in
    omega (arith, size, ap length c.pass.ensures, length-drop 188 c.fill.new.self, c.in-Some.ensures.some.0)

pub packets-preserved : goal.packets-preserved
packets-preserved g c =
    let was = c.packets.invariant in
    let packet = take 188 c.fill.new.self in
    let size : length packet ≡ 188 = length-take-le 188 c.fill.new.self c.in-Some.ensures.some.0 in
    let n = c.packets.n in
    let map_pid = c.args.map_pid in
    let found = c.in-Ok-taken.found in
    record {
      seen = was.seen ++ packet;
      passes = rw c.pass.ensures (passes_packet _ _ _ _ was.seen c.fill.new.self (passes_filled _ _ _ _ _ _ was.seen c.packets.buffer c.fill.new.self was.passes c.in-Ok.ensures.passes));
      count = next_count was.seen packet n was.count size;
      every = λ more.
          let file = was.seen ++ (packet ++ more) in
          let stood = was.every (packet ++ more) in
          let bytes_are = c.in-Some.ensures.some.1 ∙ next_piece was.seen packet more n was.count size in
          let here = next_within was.seen packet more n was.count size in
          lists-next was.seen packet more map_pid n c.packets.readers c.packets.arrivals c.take-taken.new.self _ found stood
          (c.in-Ok-taken.ensures.taken file map_pid here bytes_are stood.stand) (c.in-Ok-taken.ensures.behind file map_pid here bytes_are stood.stand) c.in-Ok-push_section.ensures.added;
      headers = c.in-Ok-push_section.ensures.headers was.headers;
      faults = omega (arith, was.faults, c.in-Ok.ensures.causes.faults_grow);
      absences = omega (arith, was.absences, c.in-Ok.ensures.causes.absences_grow);
      keeps = g.met.S.Source.keeps_on _ _ _ was.keeps c.in-Ok.ensures.keeps;
    }

pub returns-in-Err-taken-clause-refused : goal.returns-in-Err-taken-clause-refused
returns-in-Err-taken-clause-refused g c =
    let was = c.packets.invariant in
    let packet = take 188 c.fill.new.self in
    let size : length packet ≡ 188 = length-take-le 188 c.fill.new.self c.in-Some.ensures.some.0 in
    let n = c.packets.n in
    let map_pid = c.args.map_pid in
    let fault = c.in-Err-taken.fault in
    record {
      seen = was.seen ++ packet;
      passes = rw c.pass.ensures (passes_packet _ _ _ _ was.seen c.fill.new.self (passes_filled _ _ _ _ _ _ was.seen c.packets.buffer c.fill.new.self was.passes c.in-Ok.ensures.passes));
      every = λ more.
          let file = was.seen ++ (packet ++ more) in
          let stood = was.every (packet ++ more) in
          section-refused was.seen packet more map_pid n c.packets.readers c.packets.arrivals fault stood
          (c.in-Err-taken.ensures.taken file map_pid (next_within was.seen packet more n was.count size)
          (c.in-Some.ensures.some.1 ∙ next_piece was.seen packet more n was.count size) stood.stand);
    }

pub returns-in-Err-taken-clause-keeps : goal.returns-in-Err-taken-clause-keeps
returns-in-Err-taken-clause-keeps g c = g.met.S.Source.keeps_on _ _ _ c.packets.invariant.keeps c.in-Ok.ensures.keeps
