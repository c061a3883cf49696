-- What is read of an audio stream serves the judge.
use Rattle.std.proofs.Common.{◌≡◌, ◌⊎◌, inl, inr, ℕ, ◌+◌, ◌*◌, ◌^◌, ◌<◌, ◌≤◌, Bool, true, false, cond, List, [], ◌∷◌, ◌++◌, length, map, take, drop, get_or, replicate, All, ℤ, pos, neg_ℤ, ◌+ℤ◌, ◌-ℤ◌, ◌≤ℤ◌, refl, sym, ap, ◌∙◌, subst, arith}
use Rattle.std.specs.List.{sum_by}
use Rattle.std.specs.List.Sorted.{IsNonDecreasing, IsStrictlyIncreasing}
use Rattle.std.proofs.lemmas.Int.{ints}
use Rattle.std.proofs.lemmas.List.{length-drop, length-map, take_all, take_more}
use Rattle.std.proofs.lemmas.List.Elements.{All-head, All-push, All-tail}
use Rattle.std.proofs.lemmas.List.Sums.{sum_by-cons}
use Rattle.audio_frames.specs.declared.frame.Frame.{Frame}
use Rattle.pes_units.specs.PesHeader.{header_length}
use Rattle.pes_units.specs.PesPackets.{is_dropped}
use Rattle.tstd_model.specs.declared.decoder_input.Arrival.{Arrival}
use Rattle.tstd_model.specs.declared.decoder_input.BufferKind.TheVariants.{Audio}
use Rattle.tstd_model.specs.declared.decoder_input.PacketPart.TheVariants.{Overhead}
use Rattle.tstd_model.specs.declared.decoder_input.Removal.{Removal}
use Rattle.tstd_model.specs.PacketBytes.{HasHeaderWithin}
use Rattle.ts_demux.specs.declared.demuxed.AudioStream.{AudioStream}
use Rattle.ts_demux.specs.declared.demuxed.PesUnit.{PesUnit}
use Rattle.ts_demux.specs.declared.pid_places.Place.{Place}
use Rattle.elementary_streams.specs.declared.audio_stream.ReadStream.{ReadStream}
use Rattle.elementary_streams.specs.declared.stream_fault.StreamFault.{StreamFault}
use Rattle.elementary_streams.specs.declared.stream_fault.StreamFault.TheVariants as stream_faults
use Rattle.stream_audit.specs.declared.frame_removals.FrameClock.{FrameClock}
use Rattle.stream_audit.specs.declared.kept_units.KeptUnits.{KeptUnits}
use Rattle.elementary_streams.specs.declared.pes_packets.PlacedPacket.{PlacedPacket}
use Rattle.stream_audit.specs.Findings.{CanBeJudged}
use Rattle.stream_audit.specs.PesBytes.{brought_by_all, bytes_before, parts_of_packets}
use Rattle.elementary_streams.specs.Packets.{joined, pes_payload_of, placed_from, taken}
use Rattle.elementary_streams.proofs.TakenLemmas.{placed_at}
use Rattle.stream_audit.specs.declared.audit_stop.AuditStop.{AuditStop}
use Rattle.stream_audit.specs.declared.audit_stop.AuditStop.TheVariants.{OutOfMemory, ProgramLimit}
use Rattle.stream_audit.specs.Refusals.{IsAudioSound, IsAudioStopped, stop_of_stream}
use Rattle.elementary_streams.specs.Audio.{IsStreamRefused, HasFrames, IsStreamRead}
use Rattle.stream_audit.specs.Removals.{AreInTime, first_due, first_time, frame_due, frame_removals, header_bytes_in, removed_at}
use Rattle.stream_audit.specs.Streams.{IsAudioOf}
use Rattle.stream_audit.specs.Private.FrameRemovals.{AreChained, Climb, FallsWithin, frame_removal}
use Rattle.stream_audit.proofs.AudioLaws.{frames_rise, places_climb, spans_chained, spans_within, taken_front}
use Rattle.elementary_streams.proofs.StreamLemmas.{HasPayload, bytes_in, placed_count, taken_bytes, taken_count, taken_payloads}
use Rattle.elementary_streams.proofs.FrameTimes.{frames_few}

-- ---- headers are bytes of their packets

headers_most : (at : ℕ) (packets : List PesUnit) → All HasPayload packets → sum_by (λ packet. packet.header.len) (placed_from at packets) ≤ bytes_in packets
headers_most at [] all = omega arith
headers_most at (packet ∷ packets) all =
    let rest = headers_most (at + length (pes_payload_of packet)) packets (All-tail HasPayload packet packets all) in
    let some : HasPayload packet = All-head HasPayload packet packets all in
    let size = length-drop (header_length packet.bytes) packet.bytes in
    omega (
      arith,
      rest,
      some,
      size,
      sum_by-cons (λ (p : PesUnit). length p.bytes) packet packets,
      sum_by-cons (λ (p : PlacedPacket). p.header.len) (placed_at at packet) (placed_from (at + length (pes_payload_of packet)) packets),
    )

taken_in : (video : Bool) (packets : List PesUnit) → bytes_in (taken video packets) ≤ bytes_in packets
taken_in video [] = omega arith
taken_in video (p ∷ []) = by_test (is_dropped video p.bytes)
  where
    by_test : (dropped : Bool) → bytes_in (cond dropped [] (p ∷ [])) ≤ bytes_in (p ∷ [])
    by_test true = omega arith
    by_test false = omega arith
taken_in video (p ∷ q ∷ ps) =
    let rest = taken_in video (q ∷ ps) in
    omega (arith, rest, sum_by-cons (λ (u : PesUnit). length u.bytes) p (taken video (q ∷ ps)), sum_by-cons (λ (u : PesUnit). length u.bytes) p (q ∷ ps))

-- ---- what is read

module _ (first : ℤ) (stream : AudioStream) (read : ReadStream) (is : IsStreamRead first stream read) (small : bytes_in stream.units < 2 ^ 31) where
  size : length (joined (taken false stream.units)) < 2147483648
  size = let most = taken_bytes false stream.units in omega (arith, most, small)

  within : All (λ frame. frame.at + frame.len ≤ length (joined (taken false stream.units))) read.frames
  within = spans_within 0 (drop 1 is.frames_are.frames_are.places) (length (joined (taken false stream.units))) read.frames is.frames_are.frames_are.cover

  pub read_chained : AreChained 0 read.frames
  read_chained = spans_chained 0 (drop 1 is.frames_are.frames_are.places) (length (joined (taken false stream.units))) read.frames is.frames_are.frames_are.cover

  pub read_climb : (placed : List PlacedPacket) → placed ≡ read.packets.items → Climb 0 placed
  read_climb placed same = subst (Climb 0) (sym (same ∙ is.placed)) (places_climb 0 0 (taken false stream.units) (omega arith))

  pub read_headers : (placed : List PlacedPacket) → placed ≡ read.packets.items → sum_by (λ packet. packet.header.len) placed < 2147483648
  read_headers placed same =
      let most = headers_most 0 (taken false stream.units) (taken_payloads stream.units is.frames_are.sound) in
      let fewer = taken_in false stream.units in
      let all : sum_by (λ (packet : PlacedPacket). packet.header.len) placed ≡ sum_by (λ (packet : PlacedPacket). packet.header.len) (placed_from 0 (taken false stream.units)) =
      ap (sum_by (λ (packet : PlacedPacket). packet.header.len)) (same ∙ is.placed) in
      omega (arith, most, fewer, all, small)

  pub read_lengths : (frames : List Frame) → frames ≡ read.frames → All (λ frame. frame.len < 2147483648) frames
  read_lengths frames same = subst (All (λ (frame : Frame). frame.len < 2147483648)) (sym same) (λ k d less. (let end = within k d less in omega (arith, end, size)))

  pub read_places : (frames : List Frame) → frames ≡ read.frames → All (λ frame. frame.at < 4611686018427387904) frames
  read_places frames same = subst (All (λ (frame : Frame). frame.at < 4611686018427387904)) (sym same) (λ k d less. (let end = within k d less in omega (arith, end, size)))

  pub read_few : length read.frames < 2147483648
  read_few = let most = frames_few (joined (taken false stream.units)) is.frames_are.starts read.frames is.frames_are.frames_are in omega (arith, most, size)

-- ---- times

fall_within : (time offset : ℤ) (due shown : ℕ) → offset ≡ pos due -ℤ pos shown → shown ≤ 2576980377600 → neg_ℤ (pos 9000000000000000000) ≤ℤ time →
    (time +ℤ offset) ≤ℤ pos 4503599627370496 → FallsWithin (time +ℤ offset)
fall_within time offset due shown is few least most = record { least = low time offset due shown is few least; most = most }
  where
    low : (time offset : ℤ) (due shown : ℕ) → offset ≡ pos due -ℤ pos shown → shown ≤ 2576980377600 → neg_ℤ (pos 9000000000000000000) ≤ℤ time →
        neg_ℤ (pos 9223370937343148032) ≤ℤ (time +ℤ offset)
    low time offset due shown is few least = omega (arith, ints, is, few, least)

pub frames_fall : (first : ℤ) (shown : ℕ) (kept : KeptUnits) (stream : AudioStream) (read : ReadStream) (lent : List Frame) (offset : ℤ) → IsStreamRead first stream read →
    shown ≡ first_time kept → shown < 2 ^ 33 → lent ≡ read.frames → offset ≡ pos (first_due kept) -ℤ pos (300 * first_time kept) → All (λ frame. (frame.time +ℤ offset) ≤ℤ pos (2 ^ 52)) lent →
    All (λ frame. FallsWithin (frame.time +ℤ offset)) lent
frames_fall first shown kept stream read lent offset is shown_is few same offset_is fit =
    let dues = subst (All (λ (frame : Frame). (frame.time +ℤ offset) ≤ℤ pos (2 ^ 52))) same fit in
    subst (All (λ (frame : Frame). FallsWithin (frame.time +ℤ offset))) (sym same) (λ k d less.
    fall_within (get_or read.frames k d).time offset (first_due kept) (300 * first_time kept) offset_is (omega (arith, few, shown_is)) (is.ticks k d less).least (dues k d less))

-- a due by the clock's offset is the due by the first unit
due_same : (time offset : ℤ) (due shown : ℕ) → offset ≡ pos due -ℤ pos shown → (time +ℤ offset) ≡ pos due +ℤ (time -ℤ pos shown)
due_same time offset due shown is = omega (arith, ints, is)

-- frames one by one
abbrev IsInTime : ℤ → Frame → Type 0
IsInTime offset frame = (frame.time +ℤ offset) ≤ℤ pos (2 ^ 52)

module _ (offset : ℤ) (frames : List Frame) (i : ℕ) where
  pub one_in_time : (d : Frame) → i < length frames → ((get_or frames i d).time +ℤ offset) ≤ℤ pos (2 ^ 52) →
      All (λ frame. (frame.time +ℤ offset) ≤ℤ pos (2 ^ 52)) (take i frames) → All (λ frame. (frame.time +ℤ offset) ≤ℤ pos (2 ^ 52)) (take (i + 1) frames)
  one_in_time d within fits all =
      subst (All (IsInTime offset)) (sym (take_more frames i d within)) (All-push (IsInTime offset) (take i frames) (get_or frames i d) all fits)

  pub all_in_time : length frames ≤ i → All (λ frame. (frame.time +ℤ offset) ≤ℤ pos (2 ^ 52)) (take i frames) → All (λ frame. (frame.time +ℤ offset) ≤ℤ pos (2 ^ 52)) frames
  all_in_time end all = subst (All (IsInTime offset)) (take_all i frames end) all

-- frames in time by the clock's offset are in time by the first unit
module _ (kept : KeptUnits) (offset : ℤ) (frames lent : List Frame) (same : lent ≡ frames) (offset_is : offset ≡ pos (first_due kept) -ℤ pos (300 * first_time kept)) where
  one_due : (frame : Frame) → (frame.time +ℤ offset) ≡ frame_due kept frame
  one_due frame = due_same frame.time offset (first_due kept) (300 * first_time kept) offset_is

  pub in_time : All (λ frame. (frame.time +ℤ offset) ≤ℤ pos (2 ^ 52)) lent → AreInTime kept frames
  in_time fit =
      let dues = subst (All (λ (frame : Frame). (frame.time +ℤ offset) ≤ℤ pos (2 ^ 52))) same fit in
      λ k d less. subst (λ (due : ℤ). due ≤ℤ pos (2 ^ 52)) (one_due (get_or frames k d)) (dues k d less)

  pub not_in_time : (All (λ frame. (frame.time +ℤ offset) ≤ℤ pos (2 ^ 52)) lent → ⊥) → AreInTime kept frames → ⊥
  not_in_time late fit =
      late (subst (All (λ (frame : Frame). (frame.time +ℤ offset) ≤ℤ pos (2 ^ 52))) (sym same)
      (λ k d less. subst (λ (due : ℤ). due ≤ℤ pos (2 ^ 52)) (sym (one_due (get_or frames k d))) (fit k d less)))

-- what refuses to read it
pub audio_unread : (first : ℤ) (kept : KeptUnits) (stream : AudioStream) (found : StreamFault) (stop : AuditStop) → first ≡ pos (first_time kept) →
    (found ≡ stream_faults.OutOfMemory) ⊎ IsStreamRefused first stream found → stop ≡ stop_of_stream stream.pid found → (stop ≡ OutOfMemory) ⊎ IsAudioStopped kept stream stop
audio_unread first kept stream found stop first_is (inl memory) said = inl (said ∙ ap (stop_of_stream stream.pid) memory)
audio_unread first kept stream found stop first_is (inr unread) said =
    inr (IsAudioStopped.unread found (subst (λ (time : ℤ). IsStreamRefused time stream found) first_is unread) said)

-- what is read of a stream whose frames are in time, or of one whose frames aren't
module _ (first : ℤ) (kept : KeptUnits) (stream : AudioStream) (read : ReadStream) (lent : List Frame) (offset : ℤ) (is : IsStreamRead first stream read)
    (first_is : first ≡ pos (first_time kept))
    (same : lent ≡ read.frames) (offset_is : offset ≡ pos (first_due kept) -ℤ pos (300 * first_time kept)) where
  framed : HasFrames (pos (first_time kept)) stream read.frames
  framed = subst (λ (time : ℤ). HasFrames time stream read.frames) first_is is.frames_are

  pub audio_sound : All (λ frame. (frame.time +ℤ offset) ≤ℤ pos (2 ^ 52)) lent → IsAudioSound kept stream
  audio_sound fit = record { frames = read.frames; framed = framed; in_time = in_time kept offset read.frames lent same offset_is fit }

  pub audio_late : (All (λ frame. (frame.time +ℤ offset) ≤ℤ pos (2 ^ 52)) lent → ⊥) → (ProgramLimit ≡ OutOfMemory) ⊎ IsAudioStopped kept stream ProgramLimit
  audio_late late = inr (IsAudioStopped.late read.frames framed (not_in_time kept offset read.frames lent same offset_is late) refl)

map_same : (f g : Frame → Removal) (frames : List Frame) → ((frame : Frame) → f frame ≡ g frame) → map f frames ≡ map g frames
map_same f g [] same = refl
map_same f g (frame ∷ frames) same = ap (λ (r : Removal). r ∷ map f frames) (same frame) ∙ ap (λ (rs : List Removal). g frame ∷ rs) (map_same f g frames same)

pub removals_same : (zero : ℕ) (kept : KeptUnits) (clock : FrameClock) (packets : List PesUnit) (placed : List PlacedPacket) (frames : List Frame) → clock.zero ≡ zero →
    clock.base ≡ kept.base → clock.offset ≡ pos (first_due kept) -ℤ pos (300 * first_time kept) → placed ≡ placed_from 0 packets →
    map (frame_removal clock placed) frames ≡ frame_removals zero kept packets frames
removals_same zero kept clock packets placed frames zero_is base_is offset_is placed_is =
    map_same (frame_removal clock placed) (λ frame. record {
      due = removed_at zero kept.base (frame_due kept frame);
      bytes = frame.len + header_bytes_in frame (placed_from 0 packets);
    }) frames (λ frame.
    (let due_is : removed_at clock.zero clock.base (frame.time +ℤ clock.offset) ≡ removed_at zero kept.base (frame_due kept frame) =
    ap (λ (z : ℕ). removed_at z clock.base (frame.time +ℤ clock.offset)) zero_is
    ∙ ap (λ (b : ℕ). removed_at zero b (frame.time +ℤ clock.offset)) base_is
    ∙ ap (removed_at zero kept.base) (due_same frame.time clock.offset (first_due kept) (300 * first_time kept) offset_is) in
    let bytes_are : frame.len + header_bytes_in frame placed ≡ frame.len + header_bytes_in frame (placed_from 0 packets) = ap (λ (ps : List PlacedPacket). frame.len + header_bytes_in frame ps) placed_is in
    rw (due_is, bytes_are) refl))

-- ---- the stream

pub front_few : (first : ℤ) (stream : AudioStream) (read : ReadStream) (lent : List PesUnit) (count : ℕ) → IsStreamRead first stream read → lent ≡ stream.units → count ≡ length read.packets.items →
    count ≤ length lent
front_few first stream read lent count is same count_is =
    let all = ap (λ (ps : List PlacedPacket). length ps) is.placed in
    let units = ap (λ (us : List PesUnit). length us) same in
    let few = taken_count false stream.units in
    let placed = placed_count 0 (taken false stream.units) in
    omega (arith, all, units, few, placed, count_is)

pub front_taken : (first : ℤ) (stream : AudioStream) (read : ReadStream) (lent front : List PesUnit) (count : ℕ) → IsStreamRead first stream read → lent ≡ stream.units →
    count ≡ length read.packets.items → front ≡ take count lent → front ≡ taken false stream.units
front_taken first stream read lent front count is same count_is front_is =
    let counted : count ≡ length (taken false stream.units) = count_is ∙ ap (λ (ps : List PlacedPacket). length ps) is.placed ∙ placed_count 0 (taken false stream.units) in
    front_is ∙ ap (take count) same ∙ ap (λ (n : ℕ). take n stream.units) counted ∙ sym (taken_front false stream.units)

pub is_audio : (first : ℤ) (zero bytes before : ℕ) (kept : KeptUnits) (places : List Place) (stream : AudioStream) (read : ReadStream) (clock : FrameClock) (front : List PesUnit) (placed : List PlacedPacket)
    (frames : List Frame) (arrivals : List Arrival) (removals : List Removal) → IsStreamRead first stream read → first ≡ pos (first_time kept) → bytes ≡ read.bytes → before ≡ bytes_before places →
    clock.zero ≡ zero → clock.base ≡ kept.base → clock.offset ≡ pos (first_due kept) -ℤ pos (300 * first_time kept) → front ≡ taken false stream.units →
    placed ≡ read.packets.items → frames ≡ read.frames → arrivals ≡ brought_by_all places (replicate before Overhead ++ parts_of_packets (record { from = 0; to = 0 + bytes }) 0 front) →
    removals ≡ map (frame_removal clock placed) frames →
    IsAudioOf places zero kept stream (record { pid = stream.pid; kind = Audio; arrivals = arrivals; removals = removals })
is_audio first zero bytes before kept places stream read clock front placed frames arrivals removals is first_is bytes_are before_is zero_is base_is offset_is front_is placed_is frames_are
    arrivals_are removals_are = record {
      frames = read.frames;
      framed = subst (λ (time : ℤ). HasFrames time stream read.frames) first_is is.frames_are;
      stream_is = rw (
        arrivals_are
            ∙ ap (λ (n : ℕ). brought_by_all places (replicate n Overhead ++ parts_of_packets (record { from = 0; to = 0 + bytes }) 0 front)) before_is
            ∙ ap (λ (n : ℕ). brought_by_all places (replicate (bytes_before places) Overhead ++ parts_of_packets (record { from = 0; to = n }) 0 front)) whole
            ∙ ap (λ (ps : List PesUnit). brought_by_all places (replicate (bytes_before places) Overhead ++ parts_of_packets (record { from = 0; to = length (joined (taken false stream.units)) }) 0 ps)) front_is,
        removals_are ∙ ap (map (frame_removal clock placed)) frames_are
            ∙ removals_same zero kept clock (taken false stream.units) placed read.frames zero_is base_is offset_is (placed_is ∙ is.placed),
      ) refl;
    }
  where
    whole : 0 + bytes ≡ length (joined (taken false stream.units))
    whole = let all : bytes ≡ length (joined (taken false stream.units)) = bytes_are ∙ is.bytes in omega (arith, all)

pub audio_judged : (first : ℤ) (places : List Place) (stream : AudioStream) (read : ReadStream) (clock : FrameClock) (placed : List PlacedPacket) (frames : List Frame) (arrivals : List Arrival)
    (removals : List Removal) (pid : ℕ) → IsStreamRead first stream read → bytes_in stream.units < 2 ^ 31 → frames ≡ read.frames → IsStrictlyIncreasing (map (λ place. place.packet) places) →
    map (λ arrival. arrival.slot_no) arrivals ≡ map (λ place. place.packet) places → All HasHeaderWithin arrivals → removals ≡ map (frame_removal clock placed) frames →
    All (λ removal. removal.due ≤ 2 ^ 53) removals → CanBeJudged (record { pid = pid; kind = Audio; arrivals = arrivals; removals = removals })
audio_judged first places stream read clock placed frames arrivals removals pid is small frames_are rise slots headers removals_are fit =
    let all : removals ≡ map (frame_removal clock placed) read.frames = removals_are ∙ ap (map (frame_removal clock placed)) frames_are in
    let count : length removals ≡ length read.frames = ap (λ (rs : List Removal). length rs) all ∙ length-map read.frames (frame_removal clock placed) in
    let few = read_few first stream read is small in
    record {
      in_level = tt;
      slots_rise = subst IsStrictlyIncreasing (sym slots) rise;
      headers_within = headers;
      few = omega (arith, count, few);
      dues_rise = subst (λ (rs : List Removal). IsNonDecreasing (map (λ (removal : Removal). removal.due) rs)) (sym all) (frames_rise clock placed read.frames is.frames_are.frames_are.rising);
      dues_fit = fit;
    }
