-- PES packets that pass out of a source, one transport packet further.
use Rattle.std.proofs.Common.{◌≡◌, ℕ, ◌+◌, ◌*◌, ◌<◌, ◌≤◌, true, false, List, [], ◌++◌, length, take, drop, slice_get, Option, Some, None, IsSome, refl, sym}
use Rattle.std.proofs.Common.{ap, ◌∙◌, subst, arith, append_assoc, length-append, length-take-le}
use Rattle.shelf_io.specs.Source.{source_bytes_most}
use Rattle.ts_packets.specs.TransportStream.{piece_at, piece_count}
use Rattle.ts_demux.specs.declared.demux_fault.DemuxFault.{DemuxFault}
use Rattle.ts_demux.specs.declared.demuxed.PesUnit.{PesUnit}
use Rattle.ts_demux.specs.CarriedPackets.{StandsAt}
use Rattle.ts_demux.specs.Demux.{IsFirstStreamFault}
use Rattle.ts_demux.specs.PacketBuffer.{IsAtEnd, Passes}
use Rattle.ts_demux.specs.Pass.{IsEarly}
use Rattle.ts_demux.proofs.PassSteps.{next_count, next_piece, next_within, passes_filled, passes_packet, passes_size}
use Rattle.ts_demux.proofs.Passing.{passes_none}
use Rattle.pes_passing.specs.declared.open_packet.OpenPacket.{OpenPacket}
use Rattle.pes_passing.specs.declared.passing_packets.PassingPackets.{PassingPackets}
use Rattle.pes_passing.specs.PassingPackets.{Goes, HasPassed, open_of, pids_of, StandsIn}
use Rattle.pes_passing.specs.Private.OpenPacket.{ended_behind}
use Rattle.pes_passing.proofs.Standing.{all_at_end, stands_turned}

-- nothing has passed
pub none_passed : (left : Option (List ℕ)) (most : ℕ) (packets : PassingPackets) → most ≤ source_bytes_most → packets.read ≡ 0 → packets.pes.held ≡ None → packets.pes.begun ≡ None
    → packets.pes.count ≡ 0 → (pid : ℕ) → slice_get (pids_of packets) packets.index ≡ Some pid
    → ((file : List ℕ) → StandsAt file 0 packets.packets) → HasPassed left left most most [] [] packets
none_passed left most packets few read held begun count pid pid_is stand = record {
  most_few = few;
  seen = [];
  passes = passes_none left most [];
  count = omega (arith, read);
  every = λ more. record {
    stand = rw read (stand more);
    sound = λ n fault below is. absurd (omega (arith, below, read));
    pid = pid;
    pid_is = pid_is;
    split = rw (read, begun, held) (record { packets = refl; none = λ _. refl });
    count_is = count;
    few = omega arith;
    few_bytes = rw (begun, held) (omega arith);
  };
}

-- the packet that is open is held
pub turned_passed : (left left_after : Option (List ℕ)) (most most_after : ℕ) (held : List ℕ) (ended : List PesUnit) (old : PassingPackets) (after : OpenPacket)
    → open_of after ≡ open_of old.pes → after.count ≡ old.pes.count → HasPassed left left_after most most_after held ended old
    → HasPassed left left_after most most_after held ended (record { packets = old.packets; index = old.index; read = old.read; pes = after })
turned_passed left left_after most most_after held ended old after open_is count_is was = record {
  most_few = was.most_few;
  seen = was.seen;
  passes = was.passes;
  count = was.count;
  every = λ more. stands_turned (was.seen ++ more) ended old after open_is count_is (was.every more);
}

-- what has passed is no more than a source gives
pub within : (left left_after : Option (List ℕ)) (most most_after : ℕ) (held : List ℕ) (ended : List PesUnit) (packets : PassingPackets)
    → HasPassed left left_after most most_after held ended packets → (188 * packets.read ≤ source_bytes_most) × (packets.pes.count ≤ packets.read)
within left left_after most most_after held ended packets was =
    let size = passes_size left left_after most most_after [] was.seen held was.passes in
    let stands = was.every [] in (omega (arith, size, was.most_few, was.count), omega (arith, stands.count_is, stands.few))

-- a transport packet more
pub packet_passed : (left mid after : Option (List ℕ)) (most most_mid most_after : ℕ) (held held_after : List ℕ) (ended ended_after : List PesUnit) (old new : PassingPackets)
    → HasPassed left mid most most_mid held ended old → Passes mid after most_mid most_after held [] held_after → 188 ≤ length held_after → new.read ≡ old.read + 1
    → ((file : List ℕ) → old.read < piece_count file → take 188 held_after ≡ piece_at file old.read → StandsIn file ended old → StandsIn file ended_after new)
    → HasPassed left after most most_after (drop 188 held_after) ended_after new
packet_passed left mid after most most_mid most_after held held_after ended ended_after old new was filled some read_is step =
    let packet = take 188 held_after in
    let size : length packet ≡ 188 = length-take-le 188 held_after some in
    record {
      most_few = was.most_few;
      seen = was.seen ++ packet;
      passes = passes_packet left after most most_after was.seen held_after (passes_filled left mid after most most_mid most_after was.seen held held_after was.passes filled);
      count = next_count was.seen packet old.read was.count size ∙ ap (λ (n : ℕ). 188 * n) (sym read_is);
      every = λ more. subst (λ (file : List ℕ). StandsIn file ended_after new) (sym (append_assoc was.seen packet more))
          (step (was.seen ++ (packet ++ more)) (next_within was.seen packet more old.read was.count size) (next_piece was.seen packet more old.read was.count size)
          (was.every (packet ++ more)));
    }

-- one that is refused
pub refused_early : (left mid after : Option (List ℕ)) (most most_mid most_after : ℕ) (held held_after : List ℕ) (ended : List PesUnit) (old : PassingPackets) (pids : List ℕ)
    (fault : DemuxFault) → HasPassed left mid most most_mid held ended old → Passes mid after most_mid most_after held [] held_after → 188 ≤ length held_after → pids_of old ≡ pids
    → ((file : List ℕ) (ended : List PesUnit) → old.read < piece_count file → take 188 held_after ≡ piece_at file old.read
    → StandsIn file ended old → IsFirstStreamFault file (pids_of old) fault)
    → IsEarly left after most most_after (drop 188 held_after) (λ file. IsFirstStreamFault file pids fault)
refused_early left mid after most most_mid most_after held held_after ended old pids fault was filled some pids_are first =
    let packet = take 188 held_after in
    let size : length packet ≡ 188 = length-take-le 188 held_after some in
    record {
      seen = was.seen ++ packet;
      passes = passes_packet left after most most_after was.seen held_after (passes_filled left mid after most most_mid most_after was.seen held held_after was.passes filled);
      every = λ more. subst (λ (ps : List ℕ). IsFirstStreamFault ((was.seen ++ packet) ++ more) ps fault) pids_are
          (subst (λ (file : List ℕ). IsFirstStreamFault file (pids_of old) fault) (sym (append_assoc was.seen packet more))
          (first (was.seen ++ (packet ++ more)) ended (next_within was.seen packet more old.read was.count size) (next_piece was.seen packet more old.read was.count size)
          (was.every (packet ++ more))));
    }

-- the source has ended
pub all_passed : (left mid after : Option (List ℕ)) (most most_mid most_after : ℕ) (held held_after : List ℕ) (ended : List PesUnit) (packets : PassingPackets)
    → HasPassed left mid most most_mid held ended packets → Passes mid after most_mid most_after held [] held_after → length held_after < 188 → IsAtEnd after → packets.pes.begun ≡ None
    → Goes false left after most most_after held_after ended packets
all_passed left mid after most most_mid most_after held held_after ended packets was filled short end turned = record {
  seen = was.seen;
  passes = passes_filled left mid after most most_mid most_after was.seen held held_after was.passes filled;
  end = end;
  whole = (
    all_at_end was.seen held_after ended packets was.count short turned (was.every held_after),
    omega (arith, was.count, length-append was.seen held_after),
  );
}

-- a packet that has ended is held
pub one_ended : (left left_after : Option (List ℕ)) (most most_after : ℕ) (held : List ℕ) (ended : List PesUnit) (packets : PassingPackets) (last : Option PesUnit)
    → packets.pes.held ≡ last → IsSome last → HasPassed left left_after most most_after held (ended_behind true ended last) packets
    → Goes true left left_after most most_after held ended packets
one_ended left left_after most most_after held ended packets None held_is some passed = absurd (let bad : false ≡ true = some in cc)
one_ended left left_after most most_after held ended packets (Some packet) held_is some passed = (packet, held_is, passed)
