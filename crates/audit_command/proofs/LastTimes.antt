-- No frame of an audio stream is due later than the last byte that is sent of it is gone.
use Rattle.std.proofs.Common.{◌≡◌, ℕ, zero, suc, ◌+◌, ◌-◌, ◌*◌, ◌/◌, ◌<◌, ◌≤◌, nat_le, nat_lt, Bool, true, false, List, [], ◌∷◌, ◌++◌, All, drop, length, map, min, None, Some, refl, sym, ap, subst, ◌∙◌, arith, ℤ, pos, ◌+ℤ◌, ◌-ℤ◌, ◌≤ℤ◌, ◌<ℤ◌}
use Rattle.std.specs.List.{range_with_len}
use Rattle.std.proofs.lemmas.Bool.{and_parts}
use Rattle.std.proofs.lemmas.Bool.Decides.{nat_tests}
use Rattle.std.proofs.lemmas.Int.{ints}
use Rattle.std.proofs.lemmas.List.{length-append}
use Rattle.std.proofs.lemmas.List.Elements.{All-cons, All-head, All-nil, All-tail}
use Rattle.audio_frames.specs.declared.frame.Frame.{Frame}
use Rattle.audio_frames.specs.Frames.{AreFrames, end_of, first_frame, goes_on, is_first}
use Rattle.audio_frames.proofs.Formats.{goes_on_header, header_long}
use Rattle.audio_frames.proofs.Places.{found_passes}
use Rattle.elementary_streams.specs.Audio.{HasFrames, taken_of}
use Rattle.elementary_streams.specs.declared.pes_packets.PlacedPacket.{PlacedPacket}
use Rattle.elementary_streams.specs.Packets.{joined, pes_payload_of, placed_from}
use Rattle.elementary_streams.proofs.StreamLemmas.{HasPayload, taken_payloads}
use Rattle.elementary_streams.proofs.TakenLemmas.{placed_at}
use Rattle.list_types.specs.Spans.{spans}
use Rattle.ts_demux.specs.declared.demuxed.AudioStream.{AudioStream}
use Rattle.ts_demux.specs.declared.demuxed.PesUnit.{PesUnit}
use Rattle.program_reader.specs.declared.program.AudioPiece.{AudioPiece}
use Rattle.program_reader.specs.declared.program.AudioSource.{AudioSource}
use Rattle.program_reader.specs.Audio.{ArePieces, IsAudioSource, IsDue, packet_size, placed_pieces, time_of_byte}
use Rattle.program_table.proofs.AudioTimes.{Rise, ends_of, last_byte, rise-of, time_from}

-- ---- frames

places_within : (payload : List ℕ) (first from : ℕ) (places : List ℕ) (end : ℕ) → AreFrames payload first from places end → All (λ at. at < length payload) places
places_within payload first from [] end are = All-nil (λ (at : ℕ). at < length payload)
places_within payload first from (at ∷ places) end are =
    let long : at + 4 ≤ length payload =
    header_long payload at (goes_on_header payload first at (and_parts (goes_on payload first at) (nat_le (end_of payload at) (length payload)) are.1).0) in
    All-cons (λ (place : ℕ). place < length payload) at places (omega (arith, long)) (places_within payload first (end_of payload at) places end are.2)

all_but_first : (places : List ℕ) (size : ℕ) → All (λ at. at < size) places → All (λ at. at < size) (drop 1 places)
all_but_first [] size all = all
all_but_first (p ∷ ps) size all = All-tail (λ (at : ℕ). at < size) p ps all

-- the first frame begins within the payload
begins_inside : (payload : List ℕ) (first : ℕ) → first_frame payload ≡ Some first → first < length payload
begins_inside payload first begun = let found : first < 0 + length payload = (found_passes (is_first payload) (length payload) 0 first begun).1 in omega (arith, found)

-- a byte before the end of the first frame counts with it, and another one with those behind
counts_here : (f : Frame) (fs : List Frame) (place : ℕ) → place < f.at + f.len → time_of_byte (f ∷ fs) place ≡ f.time
counts_here f fs place before = let is : nat_lt place (f.at + f.len) ≡ true = grind (arith, nat_tests) in ap (time_from f fs place) is

counts_later : (f : Frame) (fs : List Frame) (place : ℕ) → f.at + f.len ≤ place → time_of_byte (f ∷ fs) place ≡ time_of_byte fs place
counts_later f fs place behind = let is : nat_lt place (f.at + f.len) ≡ false = grind (arith, nat_tests) in ap (time_from f fs place) is

no_later : (x y z : ℤ) → x <ℤ y → y ≤ℤ z → x ≤ℤ z
no_later x y z less most = omega (arith, ints, less, most)

same_time : (x y : ℤ) → y ≡ x → x ≤ℤ y
same_time x y is = omega (arith, ints, is)

-- where the first of some spans ends
abbrev end_of_first : List (ℕ × ℕ) → ℕ
end_of_first [] = 0
end_of_first (span ∷ spans) = span.1

-- frames that cover so many bytes: none is later than the one that the last byte counts with
none_later : (frames : List Frame) (from size : ℕ) (places : List ℕ) → Rise frames → All (λ at. at < size) places → ends_of frames ≡ spans from places size → 0 < size
    → All (λ frame. frame.time ≤ℤ time_of_byte frames (size - 1)) frames
none_later [] from size places rise within cover some = All-nil (λ (frame : Frame). frame.time ≤ℤ time_of_byte [] (size - 1))
none_later (f ∷ g ∷ fs) from size [] rise within cover some = let many : suc (suc (length (ends_of fs))) ≡ 1 = ap length cover in absurd (omega (arith, many))
none_later (f ∷ []) from size (p ∷ []) rise within cover some = let many : 1 ≡ 2 = ap length cover in absurd (omega (arith, many))
none_later (f ∷ []) from size (p ∷ q ∷ ps) rise within cover some =
    let many : 1 ≡ suc (suc (length (spans q ps size))) = ap length cover in absurd (omega (arith, many))
none_later (f ∷ []) from size [] rise within cover some =
    let ends : f.at + f.len ≡ size = ap end_of_first cover in
    All-cons (λ (frame : Frame). frame.time ≤ℤ time_of_byte (f ∷ []) (size - 1)) f []
    (same_time f.time (time_of_byte (f ∷ []) (size - 1)) (counts_here f [] (size - 1) (omega (arith, ends, some))))
    (All-nil (λ (frame : Frame). frame.time ≤ℤ time_of_byte (f ∷ []) (size - 1)))
none_later (f ∷ g ∷ fs) from size (p ∷ ps) rise within cover some =
    let ends : f.at + f.len ≡ p = ap end_of_first cover in
    let before : p < size = All-head (λ (at : ℕ). at < size) p ps within in
    let rest : All (λ (frame : Frame). frame.time ≤ℤ time_of_byte (g ∷ fs) (size - 1)) (g ∷ fs) =
    none_later (g ∷ fs) p size ps rise.1 (All-tail (λ (at : ℕ). at < size) p ps within) (ap (drop 1) cover) some in
    let same : time_of_byte (f ∷ g ∷ fs) (size - 1) ≡ time_of_byte (g ∷ fs) (size - 1) = counts_later f (g ∷ fs) (size - 1) (omega (arith, ends, before)) in
    let here : f.time ≤ℤ time_of_byte (g ∷ fs) (size - 1) =
    no_later f.time g.time (time_of_byte (g ∷ fs) (size - 1)) rise.0 (All-head (λ (frame : Frame). frame.time ≤ℤ time_of_byte (g ∷ fs) (size - 1)) g fs rest) in
    subst (λ (t : ℤ). All (λ (frame : Frame). frame.time ≤ℤ t) (f ∷ g ∷ fs)) (sym same)
    (All-cons (λ (frame : Frame). frame.time ≤ℤ time_of_byte (g ∷ fs) (size - 1)) f (g ∷ fs) here rest)

-- ---- pieces

-- the last piece ends with the last byte of the payload
abbrev EndsAt : (size : ℕ) → List (PlacedPacket × ℕ × ℕ) → Type 0
EndsAt size [] = ⊥
EndsAt size (place ∷ []) = last_byte place ≡ size - 1
EndsAt size (place ∷ next ∷ places) = EndsAt size (next ∷ places)

-- a packet ends there, or what follows it does
abbrev EndsBehind : (size end : ℕ) → List (PlacedPacket × ℕ × ℕ) → Type 0
EndsBehind size end [] = end ≡ size
EndsBehind size end (place ∷ places) = EndsAt size (place ∷ places)

behind : (size end : ℕ) (places : List (PlacedPacket × ℕ × ℕ)) → EndsAt size places → EndsBehind size end places
behind size end [] ends = absurd ends
behind size end (x ∷ xs) ends = ends

-- the last byte of the last piece of a packet
last_of_packet : (len from end k : ℕ) → from < end → k + 1 ≡ (len + (end - from) + 183) / 184 → from + (184 * k + min 184 (len + (end - from) - 184 * k) - 1 - len) ≡ end - 1
last_of_packet len from end k some count = omega (arith, some, count)

packet_ends : (size at : ℕ) (packet : PlacedPacket) (rest : List (PlacedPacket × ℕ × ℕ)) (k n : ℕ) → packet.from < packet.end → k + suc n ≡ (packet_size packet + 183) / 184
    → EndsBehind size packet.end rest
    → EndsAt size (map (λ (from : ℕ). (packet, at, from)) (map (λ (j : ℕ). 184 * j) (range_with_len k (suc n))) ++ rest)
packet_ends size at packet [] k zero some count end =
    last_of_packet packet.header.len packet.from packet.end k some count ∙ ap (λ (e : ℕ). e - 1) end
packet_ends size at packet (x ∷ xs) k zero some count end = end
packet_ends size at packet rest k (suc n) some count end = packet_ends size at packet rest (k + 1) n some (omega (arith, count)) end

-- the places of the pieces of a packet, and of those behind it
abbrev pieces_behind : (at : ℕ) → PlacedPacket → (n : ℕ) → List (PlacedPacket × ℕ × ℕ) → List (PlacedPacket × ℕ × ℕ)
pieces_behind at packet n rest = map (λ (from : ℕ). (packet, at, from)) (map (λ (j : ℕ). 184 * j) (range_with_len 0 n)) ++ rest

one_packet : (size at : ℕ) (packet : PlacedPacket) (rest : List (PlacedPacket × ℕ × ℕ)) (n : ℕ) → packet.from < packet.end → n ≡ (packet_size packet + 183) / 184
    → EndsBehind size packet.end rest → EndsAt size (pieces_behind at packet n rest)
one_packet size at packet rest zero some is end = absurd (omega (arith, is, some))
one_packet size at packet rest (suc n) some is end = packet_ends size at packet rest 0 n some (omega (arith, is)) end

ends_of_packets : (size at from : ℕ) (p : PesUnit) (ps : List PesUnit) → All HasPayload (p ∷ ps) → from + length (joined (p ∷ ps)) ≡ size
    → EndsAt size (placed_pieces at (placed_from from (p ∷ ps)))
ends_of_packets size at from p [] all fits =
    let packet : PlacedPacket = placed_at from p in
    let some : HasPayload p = All-head HasPayload p [] all in
    let both : length (joined (p ∷ [])) ≡ length (pes_payload_of p) + length (joined []) = length-append (pes_payload_of p) (joined []) in
    let end : packet.end ≡ size = omega (arith, both, fits) in
    one_packet size at packet [] ((packet_size packet + 183) / 184) (omega (arith, some)) refl end
ends_of_packets size at from p (q ∷ qs) all fits =
    let packet : PlacedPacket = placed_at from p in
    let some : HasPayload p = All-head HasPayload p (q ∷ qs) all in
    let both : length (joined (p ∷ q ∷ qs)) ≡ length (pes_payload_of p) + length (joined (q ∷ qs)) = length-append (pes_payload_of p) (joined (q ∷ qs)) in
    let next = placed_pieces (at + packet_size packet) (placed_from (from + length (pes_payload_of p)) (q ∷ qs)) in
    let rest : EndsAt size next =
    ends_of_packets size (at + packet_size packet) (from + length (pes_payload_of p)) q qs (All-tail HasPayload p (q ∷ qs) all) (omega (arith, both, fits)) in
    one_packet size at packet next ((packet_size packet + 183) / 184) (omega (arith, some)) refl (behind size packet.end next rest)

-- so one piece is gone when the last byte is
abbrev IsGoneBy : (start : ℕ) (earliest time : ℤ) (most : ℕ) → Type 0
IsGoneBy start earliest time most = (gone : ℕ) × IsDue start earliest time gone × (gone ≤ most)

last_gone : (start : ℕ) (earliest : ℤ) (frames : List Frame) (size most : ℕ) (places : List (PlacedPacket × ℕ × ℕ)) (pieces : List AudioPiece) → ArePieces start earliest frames places pieces
    → All (λ piece. piece.packet.gone ≤ most) pieces → EndsAt size places → IsGoneBy start earliest (time_of_byte frames (size - 1)) most
last_gone start earliest frames size most [] pieces are gones ends = absurd ends
last_gone start earliest frames size most (x ∷ []) [] are gones ends = absurd are
last_gone start earliest frames size most (x ∷ y ∷ xs) [] are gones ends = absurd are
last_gone start earliest frames size most (x ∷ []) (p ∷ ps) are gones ends =
    (p.packet.gone, subst (λ (place : ℕ). IsDue start earliest (time_of_byte frames place) p.packet.gone) ends are.0.gone, All-head (λ (piece : AudioPiece). piece.packet.gone ≤ most) p ps gones)
last_gone start earliest frames size most (x ∷ y ∷ xs) (p ∷ ps) are gones ends =
    last_gone start earliest frames size most (y ∷ xs) ps are.1 (All-tail (λ (piece : AudioPiece). piece.packet.gone ≤ most) p ps gones) ends

-- ---- a stream

due_by : (start gone most : ℕ) (earliest time last : ℤ) → IsDue start earliest last gone → gone ≤ most → time ≤ℤ last → ((pos start +ℤ time) -ℤ earliest) ≤ℤ pos most
due_by start gone most earliest time last is few order = omega (arith, ints, is, few, order)

by_packets : (start : ℕ) (earliest : ℤ) (frames : List Frame) (packets : List PesUnit) (pieces : List AudioPiece) (first most : ℕ) (places : List ℕ) → Rise frames
    → All (λ at. at < length (joined packets)) places → first < length (joined packets)
    → ends_of frames ≡ spans 0 (drop 1 places) (length (joined packets)) → All HasPayload packets
    → ArePieces start earliest frames (placed_pieces 0 (placed_from 0 packets)) pieces → All (λ piece. piece.packet.gone ≤ most) pieces
    → All (λ frame. ((pos start +ℤ frame.time) -ℤ earliest) ≤ℤ pos most) frames
by_packets start earliest frames [] pieces first most places rise within begun cover payloads are gones = absurd (omega (arith, begun))
by_packets start earliest frames (p ∷ ps) pieces first most places rise within begun cover payloads are gones =
    let size = length (joined (p ∷ ps)) in
    let last : IsGoneBy start earliest (time_of_byte frames (size - 1)) most =
    last_gone start earliest frames size most (placed_pieces 0 (placed_from 0 (p ∷ ps))) pieces are gones (ends_of_packets size 0 0 p ps payloads (omega arith)) in
    let times : All (λ (frame : Frame). frame.time ≤ℤ time_of_byte frames (size - 1)) frames =
    none_later frames 0 size (drop 1 places) rise (all_but_first places size within) cover
    (omega (arith, begun)) in
    λ k d less. due_by start last.0 most earliest _ (time_of_byte frames (size - 1)) last.1 last.2 (times k d less)

pub stream_in_time : (start : ℕ) (earliest first : ℤ) (stream : AudioStream) (frames : List Frame) (source : AudioSource) (most : ℕ) → HasFrames first stream frames
    → IsAudioSource start earliest stream frames source → All (λ piece. piece.packet.gone ≤ most) source.pieces
    → All (λ frame. ((pos start +ℤ frame.time) -ℤ earliest) ≤ℤ pos most) frames
stream_in_time start earliest first stream frames source most has is gones =
    let packets : List PesUnit = taken_of stream in
    let all = has.frames_are.all.all in
    let within = places_within (joined packets) all.first all.first has.frames_are.places has.frames_are.all.end all.frames in
    by_packets start earliest frames packets source.pieces all.first most has.frames_are.places (rise-of frames has.frames_are.rising) within
    (begins_inside (joined packets) all.first all.begun) has.frames_are.cover (taken_payloads stream.units has.sound) is.pieces gones
