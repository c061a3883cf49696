-- PES packets of an audio stream that are taken, one more, and the last one.
use Rattle.std.proofs.Common.{◌≡◌, ◌⊎◌, ℕ, ◌+◌, ◌≤◌, Bool, true, false, List, [], ◌∷◌, ◌++◌, length, sum_by, All, Option, Some, None, ℤ, if◌then◌else◌, refl, sym, ap, ◌∙◌, subst, arith, length-append, inl, inr}
use Rattle.std.specs.Option.{option_to_list}
use Rattle.std.proofs.lemmas.List.{append-nil}
use Rattle.std.proofs.lemmas.List.Sums.{sum_by-cons}
use Rattle.audio_frames.specs.declared.audio_fault.AudioFault.{AudioFault}
use Rattle.audio_frames.specs.declared.frame.Frame.{Frame}
use Rattle.audio_frames.specs.declared.pes_start.PesStart.{PesStart}
use Rattle.audio_frames.specs.Frames.{has_low_rate}
use Rattle.audio_frames.specs.Times.{AreFramesOf, AreStarts, IsAudioRefused}
use Rattle.pes_units.specs.declared.pes_header.PesHeader.{PesHeader}
use Rattle.pes_units.specs.PesHeader.{pes_fields_of}
use Rattle.pes_units.specs.Times.{decoding_time}
use Rattle.pes_units.specs.PesPackets.{is_dropped, last_refusal, packet_refusal}
use Rattle.ts_demux.specs.declared.demuxed.AudioStream.{AudioStream}
use Rattle.ts_demux.specs.declared.demuxed.PesUnit.{PesUnit}
use Rattle.elementary_streams.specs.declared.pes_packets.PlacedPacket.{PlacedPacket}
use Rattle.elementary_streams.specs.declared.stream_fault.StreamFault.{StreamFault}
use Rattle.elementary_streams.specs.declared.stream_fault.StreamFault.TheVariants.{OutOfMemory}
use Rattle.elementary_streams.specs.Audio.{AreStartsOf, IsStreamRead, IsStreamRefused, of_frames, taken_of as taken_of_stream}
use Rattle.elementary_streams.specs.Packets.{AreSound, IsPacketFault, joined, packets_dropped, placed_from, taken}
use Rattle.elementary_streams.specs.NearTimes.{AreNear}
use Rattle.elementary_streams.specs.Private.TakenPackets.{IsFaultOf}
use Rattle.elementary_streams.proofs.FrameTimes.{frames_near}
use Rattle.elementary_streams.proofs.StreamLemmas.{HasPayload, are_starts, placed_count, placed_times, taken_payloads}
use Rattle.elementary_streams.proofs.TimeRange.{IsInRange}
use Rattle.elementary_streams.proofs.TakenLemmas.{IsWhole, count_dropped, count_taken, dropped_of, read_none, read_some, refused_last, sound_of, taken_of}
use Rattle.pes_passing.specs.PassingPackets.{AreSplit}
use Rattle.audio_walk.specs.declared.walk.AudioWalk.{AudioWalk}
use Rattle.audio_walk.specs.AudioWalk.{IsFaultBefore, IsPlaced, packet_count}
use Rattle.audio_walk.specs.Private.Ends.{EndsWith}

-- a packet that another one follows has this fault
pub fault_whole : (packets : List PesUnit) (packet : PesUnit) (fault : StreamFault) → All (IsWhole false) packets → IsFaultOf packet.at (packet_refusal false packet.bytes) fault
    → (fault ≡ OutOfMemory) ⊎ IsFaultBefore packets packet fault
fault_whole packets packet fault whole (inl memory) = inl memory
fault_whole packets packet fault whole (inr found) = inr (λ next more. record {
  before = packets;
  packet = packet;
  more = next ∷ more;
  split = refl;
  sound = whole;
  found = found.0;
  refused = found.1;
  fault_is = found.2;
})

-- the last packet has this fault
pub fault_last : (first : ℤ) (stream : AudioStream) (packets : List PesUnit) (last : PesUnit) (fault : StreamFault) → stream.units ≡ packets ++ last ∷ [] → All (IsWhole false) packets
    → IsFaultOf last.at (last_refusal false last.bytes) fault → (fault ≡ OutOfMemory) ⊎ IsStreamRefused first stream fault
fault_last first stream packets last fault all_are whole found = by_fault (refused_last false stream.units packets last fault all_are whole found)
  where
    by_fault : (fault ≡ OutOfMemory) ⊎ IsPacketFault false stream.units fault → (fault ≡ OutOfMemory) ⊎ IsStreamRefused first stream fault
    by_fault (inl memory) = inl memory
    by_fault (inr is) = inr (IsStreamRefused.bad_packet is)

-- ---- all of a stream

pub ends_none : (packets all : List PesUnit) (given : Option PesUnit) → given ≡ None → AreSplit all packets given → EndsWith packets 0 all
ends_none packets all given none are =
    let empty : all ≡ [] = are.packets ∙ ap (λ (last : Option PesUnit). packets ++ option_to_list last) none ∙ append-nil packets ∙ are.none none in record {
      sound = subst (AreSound false) (sym empty) tt;
      taken_are = ap (taken false) empty ∙ sym (are.none none);
      dropped_are = sym (ap (packets_dropped false) empty);
    }

pub known_last : (packets all : List PesUnit) (given : Option PesUnit) (last : PesUnit) → given ≡ Some last → AreSplit all packets given → all ≡ packets ++ last ∷ []
known_last packets all given last is are = are.packets ∙ ap (λ (found : Option PesUnit). packets ++ option_to_list found) is

-- the header of a last packet tells whether it is dropped
pub ends_some : (packets all : List PesUnit) (last : PesUnit) (found : Option PesHeader) (header : PesHeader) → All (IsWhole false) packets → all ≡ packets ++ last ∷ []
    → last_refusal false last.bytes ≡ None → found ≡ (if is_dropped false last.bytes then None else Some (pes_fields_of last.bytes)) → found ≡ Some header
    → EndsWith (packets ++ last ∷ []) 0 all × (header ≡ pes_fields_of last.bytes)
ends_some packets all last found header whole all_are sound found_is some =
    let kept = read_some (is_dropped false last.bytes) found header (pes_fields_of last.bytes) found_is some in (
      record {
        sound = subst (AreSound false) (sym all_are) (sound_of false packets last whole sound);
        taken_are = ap (taken false) all_are ∙ taken_of false packets last ∙ ap (λ (more : List PesUnit). packets ++ more) (taken_here (is_dropped false last.bytes) kept.0);
        dropped_are = count_taken (is_dropped false last.bytes) kept.0 ∙ sym (ap (packets_dropped false) all_are ∙ dropped_of false packets last);
      },
      kept.1,
    )
  where
    taken_here : (dropped : Bool) → dropped ≡ false → (if dropped then [] else last ∷ []) ≡ last ∷ []
    taken_here dropped is = rw is refl

pub ends_dropped : (packets all : List PesUnit) (last : PesUnit) (found : Option PesHeader) → All (IsWhole false) packets → all ≡ packets ++ last ∷ [] → last_refusal false last.bytes ≡ None
    → found ≡ (if is_dropped false last.bytes then None else Some (pes_fields_of last.bytes)) → found ≡ None → EndsWith packets 1 all
ends_dropped packets all last found whole all_are sound found_is none =
    let cut = read_none (is_dropped false last.bytes) found (pes_fields_of last.bytes) found_is none in record {
      sound = subst (AreSound false) (sym all_are) (sound_of false packets last whole sound);
      taken_are = ap (taken false) all_are ∙ taken_of false packets last ∙ ap (λ (more : List PesUnit). packets ++ more) (taken_here (is_dropped false last.bytes) cut) ∙ append-nil packets;
      dropped_are = count_dropped (is_dropped false last.bytes) cut ∙ sym (ap (packets_dropped false) all_are ∙ dropped_of false packets last);
    }
  where
    taken_here : (dropped : Bool) → dropped ≡ true → (if dropped then [] else last ∷ []) ≡ []
    taken_here dropped is = rw is refl

-- ---- how many there are

pub count_placed : (packets : List PesUnit) (walk : AudioWalk) → IsPlaced packets walk → packet_count walk ≡ length packets
count_placed packets walk is = ap length is.placed ∙ placed_count 0 packets

pub few_last : (packets : List PesUnit) (last : PesUnit) (given : Option PesUnit) (old new : AudioWalk) → given ≡ Some last → IsPlaced packets old → IsPlaced (packets ++ last ∷ []) new
    → packet_count old + length (option_to_list given) ≤ 4000000 → packet_count new ≤ 4000000
few_last packets last given old new some before behind few =
    let one : length (option_to_list given) ≡ 1 = ap (λ (found : Option PesUnit). length (option_to_list found)) some in
    omega (arith, one, few, count_placed packets old before, count_placed (packets ++ last ∷ []) new behind, length-append packets (last ∷ []))

pub size_last : (bytes : ℕ) (last : PesUnit) (given : Option PesUnit) → given ≡ Some last → bytes + sum_by (λ packet. length packet.bytes) (option_to_list given) ≤ 1099511627776
    → bytes + length last.bytes ≤ 1099511627776
size_last bytes last given some few =
    let one : sum_by (λ (packet : PesUnit). length packet.bytes) (option_to_list given) ≡ sum_by (λ (packet : PesUnit). length packet.bytes) (last ∷ []) =
    ap (λ (found : Option PesUnit). sum_by (λ (packet : PesUnit). length packet.bytes) (option_to_list found)) some in
    omega (arith, one, few, sum_by-cons (λ (packet : PesUnit). length packet.bytes) last [])

-- ---- at the end

module _ (first : ℤ) (packets : List PesUnit) (dropped : ℕ) (walk : AudioWalk) (placed : List PlacedPacket) (starts given : List PesStart) (is : IsPlaced packets walk)
    (placed_is : placed ≡ walk.packets.items) where
  pub finish_times : All (λ packet. IsInRange (decoding_time packet.header.times)) placed
  finish_times = subst (λ (ps : List PlacedPacket). All (λ packet. IsInRange (decoding_time packet.header.times)) ps) (sym (placed_is ∙ is.placed)) (placed_times 0 packets)

  module _ (starts_are : AreStartsOf first placed starts) (near : AreNear 4000000 starts) (same : given ≡ starts) where
    own_starts : AreStartsOf first (placed_from 0 packets) starts
    own_starts = subst (λ (ps : List PlacedPacket). AreStartsOf first ps starts) (placed_is ∙ is.placed) starts_are

    pub finish_starts : (all : List PesUnit) (seen : ℕ) → EndsWith packets dropped all → walk.bytes ≡ seen → AreStarts seen given
    finish_starts all seen ends seen_is =
        subst (AreStarts seen) (sym same)
        (subst (λ (n : ℕ). AreStarts n starts) (sym is.bytes ∙ seen_is)
        (are_starts first packets (joined packets) starts refl own_starts (subst (All HasPayload) ends.taken_are (taken_payloads all ends.sound)) near))

    module _ (stream : AudioStream) (ends : EndsWith packets dropped stream.units) where
      their_starts : AreStartsOf first (placed_from 0 (taken_of_stream stream)) starts
      their_starts = subst (λ (ps : List PesUnit). AreStartsOf first (placed_from 0 ps) starts) (sym ends.taken_are) own_starts

      pub finish_read : (frames : List Frame) (low : Bool) (kind : ℕ) → AreFramesOf (joined packets) given frames → walk.bytes ≤ 1099511627776 → low ≡ has_low_rate (joined packets)
          → kind ≡ (if low then 4 else 3) → IsStreamRead first stream (record { packets = walk.packets; dropped = dropped; bytes = walk.bytes; frames = frames; kind = kind })
      finish_read frames low kind frames_are few low_is kind_is =
          let of_starts : AreFramesOf (joined packets) starts frames = subst (λ (ss : List PesStart). AreFramesOf (joined packets) ss frames) same frames_are in
          record {
            placed = is.placed ∙ ap (placed_from 0) (sym ends.taken_are);
            dropped = ends.dropped_are;
            bytes = is.bytes ∙ ap (λ (ps : List PesUnit). length (joined ps)) (sym ends.taken_are);
            frames_are = record {
              sound = ends.sound;
              starts = starts;
              starts_are = their_starts;
              frames_are = subst (λ (ps : List PesUnit). AreFramesOf (joined ps) starts frames) (sym ends.taken_are) of_starts;
            };
            ticks = frames_near (joined packets) starts frames of_starts near (omega (arith, is.bytes, few));
            kind_is = kind_is ∙ ap (λ (b : Bool). if b then 4 else 3) (low_is ∙ ap (λ (ps : List PesUnit). has_low_rate (joined ps)) (sym ends.taken_are));
          }

      pub finish_refused : (found : AudioFault) (fault : StreamFault) → IsAudioRefused (joined packets) given found → fault ≡ of_frames found → IsStreamRefused first stream fault
      finish_refused found fault refused fault_is =
          IsStreamRefused.bad_frames starts found ends.sound their_starts
          (subst (λ (ps : List PesUnit). IsAudioRefused (joined ps) starts found) (sym ends.taken_are)
          (subst (λ (ss : List PesStart). IsAudioRefused (joined packets) ss found) same refused)) fault_is
