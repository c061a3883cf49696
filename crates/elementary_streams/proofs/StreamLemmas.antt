-- The PES packets of an audio stream give starts that its frames can be read by.
use Rattle.std.proofs.Common.{
  ◌≡◌,
  ℕ,
  zero,
  suc,
  ◌+◌,
  ◌^◌,
  ◌<◌,
  ◌≤◌,
  Bool,
  true,
  false,
  List,
  [],
  ◌∷◌,
  length,
  Option,
  None,
  Some,
  IfSome,
  refl,
  sym,
  ap,
  ◌∙◌,
  subst,
  arith,
  All,
  map,
  if◌then◌else◌,
  slice_index,
  ℤ,
  pos,
  neg_ℤ,
  ◌≤ℤ◌,
  is_some,
}
use Rattle.std.specs.List.{sum_by}
use Rattle.std.specs.List.Sorted.{IsStrictlyIncreasing}
use Rattle.std.proofs.lemmas.List.{length-append, length-drop}
use Rattle.std.proofs.lemmas.List.Sums.{sum_by-cons}
use Rattle.std.proofs.lemmas.List.Elements.{All-cons, All-tail, All-nil}
use Rattle.audio_frames.specs.declared.pes_start.PesStart.{PesStart}
use Rattle.audio_frames.specs.declared.audio_fault.AudioFault.{AudioFault}
use Rattle.audio_frames.specs.declared.frame.Frame.{Frame}
use Rattle.audio_frames.specs.Times.{AreStarts, AreFramesOf, IsAudioRefused}
use Rattle.pes_units.specs.declared.pes_fault.PesFault.{PesFault}
use Rattle.pes_units.specs.declared.pes_fault.PesFault.TheVariants.{BadLength}
use Rattle.pes_units.specs.PesHeader.{header_length, pes_refusal}
use Rattle.pes_units.specs.PesPackets.{is_cut, is_dropped, is_length_sound, packet_refusal}
use Rattle.pes_units.proofs.Refusals.{passes-header}
use Rattle.pes_units.specs.Times.{decoding_time}
use Rattle.ts_demux.specs.declared.demuxed.AudioStream.{AudioStream}
use Rattle.ts_demux.specs.declared.demuxed.PesUnit.{PesUnit}
use Rattle.elementary_streams.specs.declared.pes_packets.PlacedPacket.{PlacedPacket}
use Rattle.elementary_streams.specs.declared.pes_packets.TakenPackets.{TakenPackets}
use Rattle.elementary_streams.specs.declared.stream_fault.StreamFault.{StreamFault}
use Rattle.elementary_streams.specs.Packets.{AreSound, taken, pes_payload_of, joined, packets_dropped, placed_from}
use Rattle.elementary_streams.specs.Audio.{taken_of, AreStartsOf, IsStreamRefused, IsStreamRead, audio_type, of_frames}
use Rattle.elementary_streams.specs.NearTimes.{IsNear, AreNear}
use Rattle.elementary_streams.specs.Taken.{AreTaken}
use Rattle.elementary_streams.proofs.FrameTimes.{frames_near}
use Rattle.elementary_streams.proofs.StartLemmas.{near_low, near_high}
use Rattle.elementary_streams.proofs.TimeRange.{IsInRange, decoding_in_range}

-- ---- how many, and how long

pub placed_count : (from : ℕ) (packets : List PesUnit) → length (placed_from from packets) ≡ length packets
placed_count from [] = refl
placed_count from (p ∷ ps) = ap suc (placed_count (from + length (pes_payload_of p)) ps)

pub taken_count : (video : Bool) (packets : List PesUnit) → length (taken video packets) ≤ length packets
taken_count video [] = omega arith
taken_count video (p ∷ []) = by_test (is_dropped video p.bytes)
  where
    by_test : (dropped : Bool) → length (let xs : List PesUnit = if dropped then [] else p ∷ [] in xs) ≤ 1
    by_test true = omega arith
    by_test false = omega arith
taken_count video (p ∷ q ∷ ps) = let rest : length (taken video (q ∷ ps)) ≤ length (q ∷ ps) = taken_count video (q ∷ ps) in omega arith

-- bytes of PES packets
abbrev pub bytes_in : List PesUnit → ℕ
bytes_in packets = sum_by (λ packet. length packet.bytes) packets

pub taken_bytes : (video : Bool) (packets : List PesUnit) → length (joined (taken video packets)) ≤ bytes_in packets
taken_bytes video [] = omega arith
taken_bytes video (p ∷ []) = by_test (is_dropped video p.bytes)
  where
    by_test : (dropped : Bool) → length (joined (if dropped then [] else p ∷ [])) ≤ bytes_in (p ∷ [])
    by_test true = omega arith
    by_test false = omega (arith, sum_by-cons (λ (packet : PesUnit). length packet.bytes) p [], length-append (pes_payload_of p) [], length-drop (header_length p.bytes) p.bytes)
taken_bytes video (p ∷ q ∷ ps) =
    let rest : length (joined (taken video (q ∷ ps))) ≤ bytes_in (q ∷ ps) = taken_bytes video (q ∷ ps) in
    omega (arith, rest, sum_by-cons (λ (packet : PesUnit). length packet.bytes) p (q ∷ ps), length-append (pes_payload_of p) (joined (taken video (q ∷ ps))), length-drop (header_length p.bytes) p.bytes)

pub placed_times : (from : ℕ) (packets : List PesUnit) → All (λ packet. IsInRange (decoding_time packet.header.times)) (placed_from from packets)
placed_times from [] = All-nil (λ (packet : PlacedPacket). IsInRange (decoding_time packet.header.times))
placed_times from (p ∷ ps) =
    All-cons (λ (packet : PlacedPacket). IsInRange (decoding_time packet.header.times)) _ (placed_from (from + length (pes_payload_of p)) ps)
    (decoding_in_range p.bytes) (placed_times (from + length (pes_payload_of p)) ps)

-- ---- each has a payload

abbrev pub HasPayload : PesUnit → Type 0
HasPayload packet = 0 < length (pes_payload_of packet)

pub passes : (found : Option PesFault) (sound : Bool) → (if is_some found then found else if sound then None else Some BadLength) ≡ None → found ≡ None
passes None sound is = refl
passes (Some fault) sound is = absurd cc

whole_payload : (packet : PesUnit) → packet_refusal false packet.bytes ≡ None → HasPayload packet
whole_payload packet is =
    let header = passes-header false packet.bytes (passes (pes_refusal false packet.bytes) (is_length_sound false packet.bytes) is) in
    omega (arith, header.followed, length-drop (header_length packet.bytes) packet.bytes)

pub taken_payloads : (packets : List PesUnit) → AreSound false packets → All HasPayload (taken false packets)
taken_payloads [] sound = All-nil HasPayload
taken_payloads (p ∷ []) sound = by_test (is_cut false p.bytes) refl
  where
    by_test : (cut : Bool) → is_cut false p.bytes ≡ cut → All HasPayload (taken false (p ∷ []))
    by_test true is = rw is (All-nil HasPayload)
    by_test false is = let none : packet_refusal false p.bytes ≡ None = rw is at sound.0 in rw is (All-cons HasPayload p [] (whole_payload p none) (All-nil HasPayload))
taken_payloads (p ∷ q ∷ ps) sound = All-cons HasPayload p (taken false (q ∷ ps)) (whole_payload p sound.0) (taken_payloads (q ∷ ps) sound.1)

-- ---- where they begin

pub start_places : (before : ℤ) (packets : List PlacedPacket) (starts : List PesStart) → AreStartsOf before packets starts →
    map (λ start. start.at) starts ≡ map (λ packet. packet.from) packets
start_places before [] [] are = refl
start_places before [] (s ∷ ss) are = absurd are
start_places before (p ∷ ps) [] are = absurd are
start_places before (p ∷ ps) (s ∷ ss) are = rw (are.0, start_places _ ps ss are.2) refl

-- the places where payloads begin
abbrev pub places_of : ℕ → List PesUnit → List ℕ
places_of from packets = map (λ packet. packet.from) (placed_from from packets)

next_place : (x : ℕ) (xs : List ℕ) (k : ℕ) → slice_index (x ∷ xs) (suc k + 1) ≡ slice_index xs (k + 1)
next_place x xs k = let same : suc k + 1 ≡ suc (k + 1) = omega arith in ap (slice_index (x ∷ xs)) same

pub places_rise : (from : ℕ) (packets : List PesUnit) → All HasPayload packets → IsStrictlyIncreasing (places_of from packets)
places_rise from [] all k lt = absurd (omega arith)
places_rise from (p ∷ []) all k lt = absurd (omega arith)
places_rise from (p ∷ q ∷ ps) all zero lt = let some : HasPayload p = all 0 p (omega arith) in omega arith
places_rise from (p ∷ q ∷ ps) all (suc k) lt =
    subst (λ (n : ℕ). slice_index (places_of (from + length (pes_payload_of p)) (q ∷ ps)) k < n) (sym (next_place from (places_of (from + length (pes_payload_of p)) (q ∷ ps)) k))
    (places_rise (from + length (pes_payload_of p)) (q ∷ ps) (All-tail HasPayload p (q ∷ ps) all) k (omega arith))

pub starts_inside : (before : ℤ) (from : ℕ) (packets : List PesUnit) (starts : List PesStart) → AreStartsOf before (placed_from from packets) starts → All HasPayload packets →
    All (λ start. start.at < from + length (joined packets)) starts
starts_inside before from [] [] are all = All-nil (λ (start : PesStart). start.at < from + 0)
starts_inside before from [] (s ∷ ss) are all = absurd are
starts_inside before from (p ∷ ps) [] are all = absurd are
starts_inside before from (p ∷ ps) (s ∷ ss) are all =
    let some : HasPayload p = all 0 p (omega arith) in
    let size : (from + length (pes_payload_of p)) + length (joined ps) ≡ from + length (joined (p ∷ ps)) = omega (arith, length-append (pes_payload_of p) (joined ps)) in
    let here : s.at < from + length (joined (p ∷ ps)) = omega (arith, are.0, length-append (pes_payload_of p) (joined ps)) in
    All-cons (λ (start : PesStart). start.at < from + length (joined (p ∷ ps))) s ss here
    (subst (λ (n : ℕ). All (λ start. start.at < n) ss) size (starts_inside _ (from + length (pes_payload_of p)) ps ss are.2 (All-tail HasPayload p ps all)))

first_start : (before : ℤ) (packets : List PesUnit) (starts : List PesStart) → AreStartsOf before (placed_from 0 packets) starts → 0 < length (joined packets) →
    (0 < length starts) × (slice_index (map (λ start. start.at) starts) 0 ≡ 0)
first_start before [] starts are some = absurd (omega arith)
first_start before (p ∷ ps) [] are some = absurd are
first_start before (p ∷ ps) (s ∷ ss) are some = (omega arith, are.0)

near_range : (time : Option ℤ) → IfSome time (IsNear 4000000) → IfSome time (λ t. (neg_ℤ (pos (2 ^ 54)) ≤ℤ t) × (t ≤ℤ pos (2 ^ 54)))
near_range None near = tt
near_range (Some t) near = (near_low t 4000000 (omega arith) near, near_high t 4000000 (omega arith) near)

pub are_starts : (first : ℤ) (packets : List PesUnit) (payload : List ℕ) (starts : List PesStart) → payload ≡ joined packets → AreStartsOf first (placed_from 0 packets) starts →
    All HasPayload packets → AreNear 4000000 starts → AreStarts (length payload) starts
are_starts first packets payload starts is are all near = rw is (record {
  first = first_start first packets starts are;
  rising = subst IsStrictlyIncreasing (sym (start_places first (placed_from 0 packets) starts are)) (places_rise 0 packets all);
  inside = (let none : 0 + length (joined packets) ≡ length (joined packets) = omega arith in
      subst (λ (n : ℕ). All (λ start. start.at < n) starts) none (starts_inside first 0 packets starts are all));
  times = λ k d lt. near_range _ (near k d lt);
})

-- ---- what is taken of a stream

pub taken_few : (packets : List PesUnit) (held : TakenPackets) (placed : List PlacedPacket) → AreTaken false packets held → placed ≡ held.packets.items →
    length packets ≤ 4000000 → length placed ≤ 4000000
taken_few packets held placed are is few =
    let all : length (placed_from 0 (taken false packets)) ≤ 4000000 = omega (arith, placed_count 0 (taken false packets), taken_count false packets, few) in
    subst (λ (xs : List PlacedPacket). length xs ≤ 4000000) (sym (is ∙ are.holds.placed)) all

pub taken_times : (packets : List PesUnit) (held : TakenPackets) (placed : List PlacedPacket) → AreTaken false packets held → placed ≡ held.packets.items →
    All (λ packet. IsInRange (decoding_time packet.header.times)) placed
taken_times packets held placed are is =
    subst (λ (xs : List PlacedPacket). All (λ packet. IsInRange (decoding_time packet.header.times)) xs) (sym (is ∙ are.holds.placed)) (placed_times 0 (taken false packets))

pub taken_size : (packets : List PesUnit) (held : TakenPackets) (payload : List ℕ) → AreTaken false packets held → payload ≡ held.payload.items →
    bytes_in packets ≤ 1099511627776 → length payload ≤ 1099511627776
taken_size packets held payload are is small =
    let all : length (joined (taken false packets)) ≤ 1099511627776 = omega (arith, taken_bytes false packets, small) in
    subst (λ (xs : List ℕ). length xs ≤ 1099511627776) (sym (is ∙ are.holds.payload)) all

pub taken_starts : (first : ℤ) (packets : List PesUnit) (held : TakenPackets) (placed : List PlacedPacket) (payload : List ℕ) (starts given : List PesStart) →
    AreTaken false packets held → placed ≡ held.packets.items → payload ≡ held.payload.items → given ≡ starts → AreStartsOf first placed starts → AreNear 4000000 starts →
    AreStarts (length payload) given
taken_starts first packets held placed payload starts given are placed_is payload_is same starts_are near =
    subst (λ (xs : List PesStart). AreStarts (length payload) xs) (sym same)
    (are_starts first (taken false packets) payload starts (payload_is ∙ are.holds.payload)
    (subst (λ (xs : List PlacedPacket). AreStartsOf first xs starts) (placed_is ∙ are.holds.placed) starts_are) (taken_payloads packets are.sound) near)

pub frames_refused : (first : ℤ) (stream : AudioStream) (packets : List PesUnit) (held : TakenPackets) (placed : List PlacedPacket) (payload : List ℕ) (starts given : List PesStart)
    (found : AudioFault) (fault : StreamFault) → packets ≡ stream.units → AreTaken false packets held → placed ≡ held.packets.items → payload ≡ held.payload.items →
    given ≡ starts → AreStartsOf first placed starts → IsAudioRefused payload given found → fault ≡ of_frames found → IsStreamRefused first stream fault
frames_refused first stream packets held placed payload starts given found fault packets_are are placed_is payload_is same starts_are refused fault_is =
    let taken_is : taken false packets ≡ taken false stream.units = ap (taken false) packets_are in
    let placed_all : placed ≡ placed_from 0 (taken false stream.units) = placed_is ∙ are.holds.placed ∙ ap (placed_from 0) taken_is in
    let payload_all : payload ≡ joined (taken false stream.units) = payload_is ∙ are.holds.payload ∙ ap joined taken_is in
    IsStreamRefused.bad_frames starts found (subst (AreSound false) packets_are are.sound) (subst (λ (xs : List PlacedPacket). AreStartsOf first xs starts) placed_all starts_are)
    (subst (λ (xs : List ℕ). IsAudioRefused xs starts found) payload_all (subst (λ (xs : List PesStart). IsAudioRefused payload xs found) same refused)) fault_is

pub stream_read : (first : ℤ) (stream : AudioStream) (packets : List PesUnit) (held : TakenPackets) (placed : List PlacedPacket) (payload : List ℕ) (starts given : List PesStart)
    (frames : List Frame) (whole : List ℕ) (kind bytes : ℕ) → packets ≡ stream.units → AreTaken false packets held → placed ≡ held.packets.items → payload ≡ held.payload.items → given ≡ starts →
    AreStartsOf first placed starts → AreNear 4000000 starts → AreFramesOf payload given frames → length payload ≤ 1099511627776 → whole ≡ held.payload.items →
    ((one : AudioStream) → whole ≡ joined (taken_of one) → kind ≡ audio_type one) → bytes ≡ length held.payload.items →
    IsStreamRead first stream (record { packets = held.packets; dropped = held.dropped; bytes = bytes; frames = frames; kind = kind })
stream_read first stream packets held placed payload starts given frames whole kind bytes packets_are are placed_is payload_is same starts_are near frames_are small whole_is typed bytes_are =
    let taken_is : taken false packets ≡ taken false stream.units = ap (taken false) packets_are in
    let placed_all : placed ≡ placed_from 0 (taken false stream.units) = placed_is ∙ are.holds.placed ∙ ap (placed_from 0) taken_is in
    let payload_all : payload ≡ joined (taken false stream.units) = payload_is ∙ are.holds.payload ∙ ap joined taken_is in
    let of_starts : AreFramesOf payload starts frames = subst (λ (xs : List PesStart). AreFramesOf payload xs frames) same frames_are in record {
      placed = are.holds.placed ∙ ap (placed_from 0) taken_is;
      dropped = are.dropped ∙ ap (packets_dropped false) packets_are;
      bytes = bytes_are ∙ ap (λ (xs : List ℕ). length xs) (are.holds.payload ∙ ap joined taken_is);
      frames_are = record {
        sound = subst (AreSound false) packets_are are.sound;
        starts = starts;
        starts_are = subst (λ (xs : List PlacedPacket). AreStartsOf first xs starts) placed_all starts_are;
        frames_are = subst (λ (xs : List ℕ). AreFramesOf xs starts frames) payload_all of_starts;
      };
      ticks = frames_near payload starts frames of_starts near small;
      kind_is = typed stream (whole_is ∙ are.holds.payload ∙ ap joined taken_is);
    }
