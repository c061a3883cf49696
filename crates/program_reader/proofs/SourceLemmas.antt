-- Audio streams that are read give sources.
use Rattle.std.proofs.Common.{◌≡◌, ℕ, zero, suc, ◌+◌, ◌-◌, ◌<◌, ◌≤◌, nat_lt, Bool, true, false, cond, List, [], ◌∷◌, ◌++◌, length, take, drop, map, get_or, All, Some, if◌then◌else◌, refl, sym, ap, ◌∙◌, subst, arith, ℤ, pos}
use Rattle.std.specs.List.{find, flat_map}
use Rattle.std.specs.Option.{option_map_or}
use Rattle.std.proofs.lemmas.Bool.{lt-ltb}
use Rattle.std.proofs.lemmas.List.{take_more, take_all, map-append, length-append}
use Rattle.std.proofs.lemmas.List.Elements.{All-cons, All-tail, All-nil}
use Rattle.audio_frames.specs.declared.frame.Frame.{Frame}
use Rattle.list_types.specs.Spans.{spans}
use Rattle.pes_units.specs.PesPackets.{is_dropped}
use Rattle.ts_demux.specs.declared.demuxed.AudioStream.{AudioStream}
use Rattle.ts_demux.specs.declared.demuxed.PesUnit.{PesUnit}
use Rattle.elementary_streams.specs.declared.audio_stream.ReadStream.{ReadStream}
use Rattle.elementary_streams.specs.declared.pes_packets.PlacedPacket.{PlacedPacket}
use Rattle.program_reader.specs.declared.program.AudioPiece.{AudioPiece}
use Rattle.program_reader.specs.declared.program.AudioSource.{AudioSource}
use Rattle.elementary_streams.specs.Packets.{taken, pes_payload_of, joined, placed_from}
use Rattle.program_reader.specs.Audio.{time_of_byte, payload_place, placed_pieces, ArePieces, IsAudioSource, AreAudioSources}
use Rattle.program_reader.specs.Dues.{Follow, HasTimes, IsTimeFrom}
use Rattle.program_reader.specs.Private.Sources.{IsStreamFrom, AreStreamsFrom}
use Rattle.elementary_streams.proofs.StreamLemmas.{placed_count, taken_count, bytes_in, taken_bytes, HasPayload, taken_payloads}
use Rattle.elementary_streams.proofs.TakenLemmas.{placed_at}
use Rattle.audio_frames.proofs.Timed.{span}

-- ---- each payload byte has a frame

cons_parts : {A : Type 0} (x y : A) (xs ys : List A) → x ∷ xs ≡ y ∷ ys → (x ≡ y) × (xs ≡ ys)
cons_parts x y xs ys is = let head : x ≡ y = cc in let tail : xs ≡ ys = cc in (head, tail)

byte_late : (earliest : ℤ) (from size place : ℕ) (places : List ℕ) (frames : List Frame) → All (λ frame. IsTimeFrom earliest frame.time) frames →
    map span frames ≡ spans from places size → place < size → IsTimeFrom earliest (time_of_byte frames place)
byte_late earliest from size place [] [] all cover lt = absurd cc
byte_late earliest from size place (p ∷ ps) [] all cover lt = absurd cc
byte_late earliest from size place [] (f ∷ fs) all cover lt =
    let end : f.at + f.len ≡ size = ap (λ (s : ℕ × ℕ). s.1) (cons_parts (span f) (from, size) (map span fs) [] cover).0 in
    let inside : nat_lt place (f.at + f.len) ≡ true = lt-ltb place (f.at + f.len) (omega (arith, end, lt)) in
    rw inside (all 0 f (omega arith))
byte_late earliest from size place (p ∷ ps) (f ∷ fs) all cover lt =
    by_test (nat_lt place (f.at + f.len)) (all 0 f (omega arith))
    (byte_late earliest p size place ps fs (All-tail (λ (frame : Frame). IsTimeFrom earliest frame.time) f fs all)
    (cons_parts (span f) (from, p) (map span fs) (spans p ps size) cover).1 lt)
  where
    by_test : (here : Bool) → IsTimeFrom earliest f.time → IsTimeFrom earliest (time_of_byte fs place) →
        IsTimeFrom earliest (option_map_or (λ (frame : Frame). frame.time) (cond here (Some f) (find (λ (frame : Frame). nat_lt place (frame.at + frame.len)) fs)) (pos 0))
    by_test true mine later = mine
    by_test false mine later = later

place_inside : (from end len byte size : ℕ) → from < end → end ≤ size → byte < len + (end - from) → from + (byte - len) < size
place_inside from end len byte size some le lt = omega arith

has_times : (earliest : ℤ) (frames : List Frame) (size : ℕ) (places : List ℕ) (packet : PlacedPacket) → All (λ frame. IsTimeFrom earliest frame.time) frames →
    map span frames ≡ spans 0 places size → packet.from < packet.end → packet.end ≤ size → HasTimes earliest frames packet
has_times earliest frames size places packet all cover some le =
    λ byte lt. byte_late earliest 0 size (payload_place packet byte) places frames all cover (place_inside packet.from packet.end packet.header.len byte size some le lt)

-- ---- PES packets that are taken

-- payload bytes of a PES packet within so many
abbrev IsInside : ℕ → PlacedPacket → Type 0
IsInside size packet = (packet.from < packet.end) × (packet.end ≤ size)

placed_inside : (from size : ℕ) (packets : List PesUnit) → All HasPayload packets → from + length (joined packets) ≤ size → All (IsInside size) (placed_from from packets)
placed_inside from size [] all le = All-nil (IsInside size)
placed_inside from size (p ∷ ps) all le =
    let some : HasPayload p = all 0 p (omega arith) in
    let sum : length (joined (p ∷ ps)) ≡ length (pes_payload_of p) + length (joined ps) = length-append (pes_payload_of p) (joined ps) in
    All-cons (IsInside size) (placed_at from p) (placed_from (from + length (pes_payload_of p)) ps) (omega (arith, some), omega (arith, sum, le))
    (placed_inside (from + length (pes_payload_of p)) size ps (All-tail HasPayload p ps all) (omega (arith, sum, le)))

follow_of : (from : ℕ) (packets : List PesUnit) → All HasPayload packets → from + length (joined packets) < 2199023255552 → Follow from (placed_from from packets)
follow_of from [] all lt = tt
follow_of from (p ∷ ps) all lt =
    let some : HasPayload p = all 0 p (omega arith) in
    let sum : length (joined (p ∷ ps)) ≡ length (pes_payload_of p) + length (joined ps) = length-append (pes_payload_of p) (joined ps) in
    (omega arith, omega (arith, some), omega (arith, sum, lt), follow_of (from + length (pes_payload_of p)) ps (All-tail HasPayload p ps all) (omega (arith, sum, lt)))

taken_front : (video : Bool) (packets : List PesUnit) → taken video packets ≡ take (length (taken video packets)) packets
taken_front video [] = refl
taken_front video (p ∷ []) = by_test (is_dropped video p.bytes)
  where
    by_test : (dropped : Bool) → let xs : List PesUnit = if dropped then [] else p ∷ [] in xs ≡ take (length xs) (p ∷ [])
    by_test true = refl
    by_test false = refl
taken_front video (p ∷ q ∷ ps) = ap (λ (xs : List PesUnit). p ∷ xs) (taken_front video (q ∷ ps))

-- what is asked of a stream's PES packets and frames
pub record IsReady (earliest : ℤ) (stream : AudioStream) (placed : List PlacedPacket) (frames : List Frame) : Type 0 where
  pub follow : Follow 0 placed
  pub few : length placed ≤ 4000000
  pub times : All (HasTimes earliest frames) placed
  pub count : length placed ≤ length stream.units
  pub front : take (length placed) stream.units ≡ taken false stream.units

pub ready : (earliest : ℤ) (stream : AudioStream) (read : ReadStream) (placed : List PlacedPacket) (frames : List Frame) → placed ≡ read.packets.items → frames ≡ read.frames →
    IsStreamFrom earliest stream read → length stream.units ≤ 4000000 → bytes_in stream.units ≤ 1099511627776 → IsReady earliest stream placed frames
ready earliest stream read placed frames placed_is frames_are is few small =
    let units = stream.units in
    let them = taken false units in
    let all : placed ≡ placed_from 0 them = placed_is ∙ is.read_is.placed in
    let payloads : All HasPayload them = taken_payloads units is.read_is.frames_are.sound in
    let size : length (joined them) ≤ bytes_in units = taken_bytes false units in
    let count : length placed ≡ length them = ap (λ (ps : List PlacedPacket). length ps) all ∙ placed_count 0 them in
    let inside : All (IsInside (length (joined them))) (placed_from 0 them) = placed_inside 0 (length (joined them)) them payloads (omega arith) in
    let frames_is = is.read_is.frames_are.frames_are in
    let times : All (HasTimes earliest read.frames) (placed_from 0 them) =
    λ k d lt. has_times earliest read.frames (length (joined them)) (drop 1 frames_is.places) (get_or (placed_from 0 them) k d) is.late frames_is.cover (inside k d lt).0 (inside k d lt).1 in record {
      follow = subst (Follow 0) (sym all) (follow_of 0 them payloads (omega (arith, size, small)));
      few = omega (arith, count, taken_count false units, few);
      times = subst (λ (ps : List PlacedPacket). All (HasTimes earliest frames) ps) (sym all)
          (subst (λ (fs : List Frame). All (HasTimes earliest fs) (placed_from 0 them)) (sym frames_are) times);
      count = omega (arith, count, taken_count false units);
      front = ap (λ (n : ℕ). take n units) count ∙ sym (taken_front false units);
    }

pub source_is : (start : ℕ) (earliest : ℤ) (stream : AudioStream) (read : ReadStream) (units : List PesUnit) (placed : List PlacedPacket) (frames : List Frame) (bytes : List ℕ)
    (pieces : List AudioPiece) → placed ≡ read.packets.items → frames ≡ read.frames → units ≡ stream.units → IsStreamFrom earliest stream read → IsReady earliest stream placed frames →
    bytes ≡ flat_map (λ packet. packet.bytes) (take (length placed) units) → ArePieces start earliest frames (placed_pieces 0 placed) pieces →
    IsAudioSource start earliest stream read.frames (record { bytes = bytes; pieces = pieces })
source_is start earliest stream read units placed frames bytes pieces placed_is frames_are units_are is so bytes_are pieces_are = record {
  bytes = bytes_are ∙ ap (flat_map (λ (packet : PesUnit). packet.bytes)) (ap (take (length placed)) units_are ∙ so.front);
  pieces = subst (λ (fs : List Frame). ArePieces start earliest fs (placed_pieces 0 (placed_from 0 (taken false stream.units))) pieces) frames_are
      (subst (λ (ps : List PlacedPacket). ArePieces start earliest frames (placed_pieces 0 ps) pieces) (placed_is ∙ is.read_is.placed) pieces_are);
}

-- ---- streams, one behind the other

pub streams_count : (earliest : ℤ) (streams : List AudioStream) (read : List ReadStream) → AreStreamsFrom earliest streams read → length read ≡ length streams
streams_count earliest [] [] are = refl
streams_count earliest [] (r ∷ rs) are = absurd are
streams_count earliest (s ∷ ss) [] are = absurd are
streams_count earliest (s ∷ ss) (r ∷ rs) are = ap suc (streams_count earliest ss rs are.1)

stream_at : (earliest : ℤ) (streams : List AudioStream) (read : List ReadStream) (i : ℕ) (d : AudioStream) (e : ReadStream) → AreStreamsFrom earliest streams read → i < length streams →
    IsStreamFrom earliest (get_or streams i d) (get_or read i e)
stream_at earliest [] read i d e are lt = absurd (omega arith)
stream_at earliest (s ∷ ss) [] i d e are lt = absurd are
stream_at earliest (s ∷ ss) (r ∷ rs) zero d e are lt = are.0
stream_at earliest (s ∷ ss) (r ∷ rs) (suc i) d e are lt = stream_at earliest ss rs i d e are.1 (omega arith)

pub stream_here : (earliest : ℤ) (streams : List AudioStream) (read : List ReadStream) (i : ℕ) (stream : AudioStream) (one : ReadStream) → AreStreamsFrom earliest streams read →
    i < length streams → stream ≡ get_or streams i stream → one ≡ get_or read i one → IsStreamFrom earliest stream one
stream_here earliest streams read i stream one are lt stream_is one_is =
    subst (λ (s : AudioStream). IsStreamFrom earliest s one) (sym stream_is)
    (subst (λ (r : ReadStream). IsStreamFrom earliest (get_or streams i stream) r) (sym one_is) (stream_at earliest streams read i stream one are lt))

-- what holds of each stream
pub each_here : (P : AudioStream → Type 0) (streams : List AudioStream) (i : ℕ) (stream : AudioStream) → All P streams → i < length streams → stream ≡ get_or streams i stream → P stream
each_here P streams i stream all lt is = subst P (sym is) (all i stream lt)

sources_push : (start : ℕ) (earliest : ℤ) (streams : List AudioStream) (frames : List (List Frame)) (sources : List AudioSource) (stream : AudioStream) (more : List Frame) (source : AudioSource) →
    AreAudioSources start earliest streams frames sources → IsAudioSource start earliest stream more source →
    AreAudioSources start earliest (streams ++ stream ∷ []) (frames ++ more ∷ []) (sources ++ source ∷ [])
sources_push start earliest [] [] [] stream more source are is = (is, tt)
sources_push start earliest [] [] (s ∷ ss) stream more source are is = absurd are
sources_push start earliest [] (f ∷ fs) sources stream more source are is = absurd are
sources_push start earliest (x ∷ xs) [] sources stream more source are is = absurd are
sources_push start earliest (x ∷ xs) (f ∷ fs) [] stream more source are is = absurd are
sources_push start earliest (x ∷ xs) (f ∷ fs) (s ∷ ss) stream more source are is = (are.0, sources_push start earliest xs fs ss stream more source are.1 is)

-- the frames of streams, each with its own
abbrev frames_of : List ReadStream → List (List Frame)
frames_of read = map (λ one. one.frames) read

pub sources_more : (start : ℕ) (earliest : ℤ) (streams : List AudioStream) (read : List ReadStream) (i : ℕ) (stream : AudioStream) (one : ReadStream) (old new : List AudioSource)
    (source : AudioSource) → i < length streams → i < length read → stream ≡ get_or streams i stream → one ≡ get_or read i one → new ≡ old ++ source ∷ [] →
    AreAudioSources start earliest (take i streams) (frames_of (take i read)) old → IsAudioSource start earliest stream one.frames source →
    AreAudioSources start earliest (take (i + 1) streams) (frames_of (take (i + 1) read)) new
sources_more start earliest streams read i stream one old new source lt read_lt stream_is one_is pushed are is =
    let more : take (i + 1) streams ≡ take i streams ++ stream ∷ [] = take_more streams i stream lt ∙ ap (λ (s : AudioStream). take i streams ++ s ∷ []) (sym stream_is) in
    let read_more : take (i + 1) read ≡ take i read ++ one ∷ [] = take_more read i one read_lt ∙ ap (λ (r : ReadStream). take i read ++ r ∷ []) (sym one_is) in
    let frames : frames_of (take (i + 1) read) ≡ frames_of (take i read) ++ one.frames ∷ [] =
    ap frames_of read_more ∙ map-append (λ (r : ReadStream). r.frames) (take i read) (one ∷ []) in
    subst (λ (ss : List AudioSource). AreAudioSources start earliest (take (i + 1) streams) (frames_of (take (i + 1) read)) ss) (sym pushed)
    (subst (λ (fs : List (List Frame)). AreAudioSources start earliest (take (i + 1) streams) fs (old ++ source ∷ [])) (sym frames)
    (subst (λ (xs : List AudioStream). AreAudioSources start earliest xs (frames_of (take i read) ++ one.frames ∷ []) (old ++ source ∷ [])) (sym more)
    (sources_push start earliest (take i streams) (frames_of (take i read)) old stream one.frames source are is)))

pub sources_all : (start : ℕ) (earliest : ℤ) (streams : List AudioStream) (read : List ReadStream) (i : ℕ) (sources : List AudioSource) → length streams ≤ i → length read ≤ i →
    AreAudioSources start earliest (take i streams) (frames_of (take i read)) sources → AreAudioSources start earliest streams (frames_of read) sources
sources_all start earliest streams read i sources le read_le are =
    subst (λ (rs : List ReadStream). AreAudioSources start earliest streams (frames_of rs) sources) (take_all i read read_le)
    (subst (λ (ss : List AudioStream). AreAudioSources start earliest ss (frames_of (take i read)) sources) (take_all i streams le) are)
