-- The bytes of an audio stream by its frames: each byte counts with a place of the payload, and of the places that lie in a frame there are as many as it removes bytes.
use Rattle.std.proofs.Common.{◌≡◌, ◌⊎◌, inl, inr, ℕ, zero, suc, ◌+◌, ◌-◌, ◌*◌, ◌<◌, ◌≤◌, nat_le, nat_lt, min, max, Bool, true, false, cond, ◌&&◌, List, [], ◌∷◌, ◌++◌, All, map, filter, replicate, count_by, refl, sym, ap, ap₂, subst, ◌∙◌, arith, ℤ, ◌/◌, ◌≤ℤ◌}
use Rattle.std.specs.List.{AllZip, flat_map, range_with_len}
use Rattle.std.proofs.lemmas.Bool.{le-leb, leb-true, leb-false, lt-ltb, ltb-true, ltb-false}
use Rattle.std.proofs.lemmas.Grind.{flat_map-append}
use Rattle.std.proofs.lemmas.List.{append_assoc, map-append}
use Rattle.std.proofs.lemmas.List.Elements.{All-append, All-cons, All-head, All-nil, All-tail}
use Rattle.std.proofs.lemmas.List.Folds.{sum_by-replicate}
use Rattle.std.proofs.lemmas.List.Sums.{sum_by-append, sum_by-cons}
use Rattle.std.proofs.lemmas.Simd.{map-map}
use Rattle.audio_frames.specs.declared.frame.Frame.{Frame}
use Rattle.tstd_model.specs.declared.decoder_input.Removal.{Removal}
use Rattle.tstd_model.specs.Decoder.{removed}
use Rattle.tstd_bridge.proofs.ZipLaws.{AllZip-append}
use Rattle.elementary_streams.specs.declared.pes_packets.PlacedPacket.{PlacedPacket}
use Rattle.stream_audit.specs.Private.FrameRemovals.{AreChained}
use Rattle.stream_audit.specs.Removals.{begins_in, header_bytes_in}
use Rattle.program_reader.specs.declared.program.AudioPiece.{AudioPiece}
use Rattle.program_reader.specs.Audio.{ArePieces, IsDue, packet_size, payload_place, piece_size, placed_pieces, time_of_byte}
use Rattle.program_table.proofs.AudioLimits.{Mount}
use Rattle.program_table.proofs.AudioTimes.{Follow, Reach, last_byte}

-- ---- places in frames

-- a place of the payload lies in a frame
abbrev pub lies_in : Frame → ℕ → Bool
lies_in frame place = nat_le frame.at place && nat_lt place (frame.at + frame.len)

-- the value of each frame, as often as places lie in it
abbrev pub by_frames : (value : ℤ → ℕ) → List Frame → List ℕ → List ℕ
by_frames value frames places = flat_map (λ frame. replicate (count_by (lies_in frame) places) (value frame.time)) frames

in-frame : (frame : Frame) (place : ℕ) → frame.at ≤ place → place < frame.at + frame.len → lies_in frame place ≡ true
in-frame frame place low high = ap₂ (λ (a b : Bool). a && b) (le-leb frame.at place low) (lt-ltb place (frame.at + frame.len) high)

behind-frame : (frame : Frame) (place : ℕ) → frame.at + frame.len ≤ place → lies_in frame place ≡ false
behind-frame frame place past = by_tests (nat_le frame.at place) (nat_lt place (frame.at + frame.len)) refl
  where
    by_tests : (a b : Bool) → nat_lt place (frame.at + frame.len) ≡ b → (a && b) ≡ false
    by_tests true true is = absurd (let low = ltb-true place (frame.at + frame.len) is in omega (arith, low, past))
    by_tests true false is = refl
    by_tests false b is = refl

before-frame : (frame : Frame) (place : ℕ) → place < frame.at → lies_in frame place ≡ false
before-frame frame place low = by_test (nat_le frame.at place) refl
  where
    by_test : (a : Bool) → nat_le frame.at place ≡ a → (a && nat_lt place (frame.at + frame.len)) ≡ false
    by_test true is = absurd (let high = leb-true frame.at place is in omega (arith, high, low))
    by_test false is = refl

-- how many of some places and one more lie in a frame
count-one : (frame : Frame) (x : ℕ) (places : List ℕ) (b : Bool) → lies_in frame x ≡ b → count_by (lies_in frame) (x ∷ places) ≡ cond b 1 0 + count_by (lies_in frame) places
count-one frame x places b is =
    sum_by-cons (λ (place : ℕ). cond (lies_in frame place) 1 0) x places ∙ ap (λ (c : Bool). cond c 1 0 + count_by (lies_in frame) places) is

-- no place of a list that begins behind a frame lies in it
none-lie : (frame : Frame) (low : ℕ) (places : List ℕ) → frame.at + frame.len ≤ low → Mount low places → count_by (lies_in frame) places ≡ 0
none-lie frame low [] past mount = refl
none-lie frame low (x ∷ xs) past mount =
    let rest : count_by (lies_in frame) xs ≡ 0 = none-lie frame x xs (omega (arith, past, mount.0)) mount.1 in
    count-one frame x xs false (behind-frame frame x (omega (arith, past, mount.0))) ∙ ap (λ (n : ℕ). 0 + n) rest

-- a place before frames lies in none of them
passed-by : (value : ℤ → ℕ) (at : ℕ) (frames : List Frame) (x : ℕ) (places : List ℕ) → AreChained at frames → x < at → by_frames value frames (x ∷ places) ≡ by_frames value frames places
passed-by value at [] x places chained low = refl
passed-by value at (f ∷ fs) x places chained low =
    let same : count_by (lies_in f) (x ∷ places) ≡ count_by (lies_in f) places =
    count-one f x places false (before-frame f x (omega (arith, low, chained.0))) ∙ (let e : 0 + count_by (lies_in f) places ≡ count_by (lies_in f) places = omega arith in e) in
    ap₂ (λ (n : ℕ) (rest : List ℕ). replicate n (value f.time) ++ rest) same (passed-by value (f.at + f.len) fs x places chained.1 (omega (arith, low, chained.0)))

-- the time of a place is that of the first frame, or of one behind it
time-at : (f : Frame) (fs : List Frame) (x : ℕ) (b : Bool) → nat_lt x (f.at + f.len) ≡ b → time_of_byte (f ∷ fs) x ≡ cond b f.time (time_of_byte fs x)
time-at f fs x true is = rw is refl
time-at f fs x false is = rw is refl

-- one more place in front
one-more : (value : ℤ → ℕ) (at : ℕ) (frames : List Frame) (x : ℕ) (places : List ℕ) → AreChained at frames → at ≤ x → Reach frames x → Mount x places
    → by_frames value frames (x ∷ places) ≡ value (time_of_byte frames x) ∷ by_frames value frames places
one-more value at [] x places chained low reach mount = absurd reach
one-more value at (f ∷ fs) x places chained low reach mount =
    by_test (λ past there. one-more value (f.at + f.len) fs x places chained.1 past there mount) (nat_lt x (f.at + f.len)) refl
  where
    behind : f.at + f.len ≤ x → (x < f.at + f.len) ⊎ Reach fs x → Reach fs x
    behind past (inl here) = absurd (omega (arith, past, here))
    behind past (inr there) = there

    by_test : (f.at + f.len ≤ x → Reach fs x → by_frames value fs (x ∷ places) ≡ value (time_of_byte fs x) ∷ by_frames value fs places) → (b : Bool) → nat_lt x (f.at + f.len) ≡ b
        → by_frames value (f ∷ fs) (x ∷ places) ≡ value (time_of_byte (f ∷ fs) x) ∷ by_frames value (f ∷ fs) places
    by_test rest true is =
        let high : x < f.at + f.len = ltb-true x (f.at + f.len) is in
        let count : count_by (lies_in f) (x ∷ places) ≡ suc (count_by (lies_in f) places) =
        count-one f x places true (in-frame f x (omega (arith, low, chained.0)) high) ∙ (let e : 1 + count_by (lies_in f) places ≡ suc (count_by (lies_in f) places) = omega arith in e) in
        ap₂ (λ (n : ℕ) (later : List ℕ). replicate n (value f.time) ++ later) count (passed-by value (f.at + f.len) fs x places chained.1 high)
        ∙ ap (λ (time : ℤ). value time ∷ by_frames value (f ∷ fs) places) (sym (time-at f fs x true is))
    by_test rest false is =
        let past : f.at + f.len ≤ x = ltb-false x (f.at + f.len) is in
        let count : count_by (lies_in f) (x ∷ places) ≡ 0 =
        count-one f x places false (behind-frame f x past) ∙ ap (λ (n : ℕ). 0 + n) (none-lie f x places past mount) in
        ap₂ (λ (n : ℕ) (later : List ℕ). replicate n (value f.time) ++ later) count (rest past (behind past reach))
        ∙ ap₂ (λ (time : ℤ) (n : ℕ). value time ∷ replicate n (value f.time) ++ by_frames value fs places) (sym (time-at f fs x false is)) (sym (none-lie f x places past mount))

-- no places have no values
none-by : (value : ℤ → ℕ) (frames : List Frame) → [] ≡ by_frames value frames []
none-by value [] = refl
none-by value (f ∷ fs) = none-by value fs

mount-low : (low at : ℕ) (places : List ℕ) → at ≤ low → Mount low places → Mount at places
mount-low low at [] order mount = tt
mount-low low at (x ∷ xs) order mount = (omega (arith, order, mount.0), mount.1)

-- places that don't fall, each reached by the frames, have the values of their frames
pub along-frames : (value : ℤ → ℕ) (at : ℕ) (frames : List Frame) (places : List ℕ) → AreChained at frames → Mount at places → All (Reach frames) places
    → map (λ (place : ℕ). value (time_of_byte frames place)) places ≡ by_frames value frames places
along-frames value at frames [] chained mount reach = none-by value frames
along-frames value at frames (x ∷ xs) chained mount reach =
    ap (λ (rest : List ℕ). value (time_of_byte frames x) ∷ rest)
    (along-frames value at frames xs chained (mount-low x at xs mount.0 mount.1) (All-tail (Reach frames) x xs reach))
    ∙ sym (one-more value at frames x xs chained mount.0 (All-head (Reach frames) x xs reach) mount.1)

-- ---- the places that the bytes of PES packets count with

-- in order: the first byte of the payload for each byte of a header, and then each byte of the payload
abbrev pub counted_places : List PlacedPacket → List ℕ
counted_places packets = flat_map (λ packet. replicate packet.header.len packet.from ++ range_with_len packet.from (packet.end - packet.from)) packets

-- payloads stand one behind the other from a place up to another
abbrev pub StandFrom : ℕ → List PlacedPacket → ℕ → Type 0
StandFrom at [] end = at ≡ end
StandFrom at (packet ∷ packets) end = (packet.from ≡ at) × (packet.from ≤ packet.end) × StandFrom packet.end packets end

stand-order : (at : ℕ) (packets : List PlacedPacket) (end : ℕ) → StandFrom at packets end → at ≤ end
stand-order at [] end stand = omega (arith, stand)
stand-order at (p ∷ ps) end stand = let rest : p.end ≤ end = stand-order p.end ps end stand.2 in omega (arith, rest, stand.0, stand.1)

-- how many places of a range lie in a frame
count-range : (frame : Frame) (from n : ℕ) → count_by (lies_in frame) (range_with_len from n) ≡ min (frame.at + frame.len) (from + n) - max frame.at from
count-range frame from zero = omega arith
count-range frame from (suc n) = by_tests (nat_le frame.at from) (nat_lt from (frame.at + frame.len)) refl refl (count-range frame (from + 1) n)
  where
    by_tests : (a b : Bool) → nat_le frame.at from ≡ a → nat_lt from (frame.at + frame.len) ≡ b
        → count_by (lies_in frame) (range_with_len (from + 1) n) ≡ min (frame.at + frame.len) (from + 1 + n) - max frame.at (from + 1)
        → count_by (lies_in frame) (from ∷ range_with_len (from + 1) n) ≡ min (frame.at + frame.len) (from + suc n) - max frame.at from
    by_tests true true low high rest =
        let one = count-one frame from (range_with_len (from + 1) n) true (ap₂ (λ (a b : Bool). a && b) low high) in
        omega (arith, one, rest, leb-true frame.at from low, ltb-true from (frame.at + frame.len) high)
    by_tests true false low high rest =
        let one = count-one frame from (range_with_len (from + 1) n) false (ap₂ (λ (a b : Bool). a && b) low high) in
        omega (arith, one, rest, leb-true frame.at from low, ltb-false from (frame.at + frame.len) high)
    by_tests false b low high rest =
        let one = count-one frame from (range_with_len (from + 1) n) false (ap₂ (λ (a b : Bool). a && b) low high) in
        omega (arith, one, rest, leb-false frame.at from low)

-- how many bytes of headers count with a frame
count-header : (frame : Frame) (n from : ℕ) (b : Bool) → lies_in frame from ≡ b → count_by (lies_in frame) (replicate n from) ≡ cond b n 0
count-header frame n from b is = sum_by-replicate (λ (place : ℕ). cond (lies_in frame place) 1 0) n from ∙ ap (λ (c : Bool). n * cond c 1 0) is ∙ one b
  where
    one : (b : Bool) → n * cond b 1 0 ≡ cond b n 0
    one true = omega arith
    one false = omega arith

header-one : (frame : Frame) (packet : PlacedPacket) (packets : List PlacedPacket) (b : Bool) → begins_in frame packet ≡ b
    → header_bytes_in frame (packet ∷ packets) ≡ cond b packet.header.len 0 + header_bytes_in frame packets
header-one frame packet packets true is = rw is (sum_by-cons (λ (p : PlacedPacket). p.header.len) packet (filter (begins_in frame) packets))
header-one frame packet packets false is = rw is (omega arith)

-- of the bytes of packets as many count with a frame as it has bytes among their payloads, and their headers that begin in it
pub counted-in : (frame : Frame) (at end : ℕ) (packets : List PlacedPacket) → StandFrom at packets end
    → count_by (lies_in frame) (counted_places packets) ≡ min (frame.at + frame.len) end - max frame.at at + header_bytes_in frame packets
counted-in frame at end [] stand = omega (arith, stand)
counted-in frame at end (p ∷ ps) stand =
    let whole : count_by (lies_in frame) ((replicate p.header.len p.from ++ range_with_len p.from (p.end - p.from)) ++ counted_places ps)
    ≡ count_by (lies_in frame) (replicate p.header.len p.from ++ range_with_len p.from (p.end - p.from)) + count_by (lies_in frame) (counted_places ps) =
    sum_by-append (λ (place : ℕ). cond (lies_in frame place) 1 0) (replicate p.header.len p.from ++ range_with_len p.from (p.end - p.from)) (counted_places ps) in
    let own : count_by (lies_in frame) (replicate p.header.len p.from ++ range_with_len p.from (p.end - p.from))
    ≡ count_by (lies_in frame) (replicate p.header.len p.from) + count_by (lies_in frame) (range_with_len p.from (p.end - p.from)) =
    sum_by-append (λ (place : ℕ). cond (lies_in frame place) 1 0) (replicate p.header.len p.from) (range_with_len p.from (p.end - p.from)) in
    let header : count_by (lies_in frame) (replicate p.header.len p.from) ≡ cond (begins_in frame p) p.header.len 0 = count-header frame p.header.len p.from (begins_in frame p) refl in
    let payload = count-range frame p.from (p.end - p.from) in
    let later = counted-in frame p.end end ps stand.2 in
    let order : p.end ≤ end = stand-order p.end ps end stand.2 in
    let headers = header-one frame p ps (begins_in frame p) refl in
    sums _ _ _ _ _ _ _ _ (frame.at + frame.len) end frame.at at p.from p.end whole own header payload later headers stand.0 stand.1 order
  where
    sums : (all mine heads bodies others few own_header all_headers stop end start at from to : ℕ) → all ≡ mine + others → mine ≡ heads + bodies → heads ≡ own_header
        → bodies ≡ min stop (from + (to - from)) - max start from → others ≡ min stop end - max start to + few → all_headers ≡ own_header + few → from ≡ at → from ≤ to → to ≤ end
        → all ≡ min stop end - max start at + all_headers
    sums all mine heads bodies others few own_header all_headers stop end start at from to whole own header payload later headers is le order =
        omega (arith, whole, own, header, payload, later, headers, is, le, order)

-- those places don't fall
mount-bytes : (n from low end : ℕ) (rest : List ℕ) → low ≤ from → from + n ≤ end → Mount end rest → Mount low (range_with_len from n ++ rest)
mount-bytes zero from low end rest order within later = mount-low end low rest (omega (arith, order, within)) later
mount-bytes (suc n) from low end rest order within later = (order, mount-bytes n (from + 1) from end rest (omega arith) (omega (arith, within)) later)

mount-headers : (n from low : ℕ) (rest : List ℕ) → low ≤ from → Mount from rest → Mount low (replicate n from ++ rest)
mount-headers zero from low rest order later = mount-low from low rest order later
mount-headers (suc n) from low rest order later = (order, mount-headers n from from rest (omega arith) later)

pub counted-mount : (at end : ℕ) (packets : List PlacedPacket) → StandFrom at packets end → Mount at (counted_places packets)
counted-mount at end [] stand = tt
counted-mount at end (p ∷ ps) stand =
    subst (Mount at) (sym (append_assoc (replicate p.header.len p.from) (range_with_len p.from (p.end - p.from)) (counted_places ps)))
    (mount-headers p.header.len p.from at (range_with_len p.from (p.end - p.from) ++ counted_places ps) (omega (arith, stand.0))
    (mount-bytes (p.end - p.from) p.from p.from p.end (counted_places ps) (omega arith) (omega (arith, stand.1)) (counted-mount p.end end ps stand.2)))

-- and they are among the payload
below-range : (end n from : ℕ) → from + n ≤ end → All (λ (place : ℕ). place < end) (range_with_len from n)
below-range end zero from within = All-nil (λ (place : ℕ). place < end)
below-range end (suc n) from within = All-cons (λ (place : ℕ). place < end) from (range_with_len (from + 1) n) (omega (arith, within)) (below-range end n (from + 1) (omega (arith, within)))

below-headers : (end n from : ℕ) → from < end → All (λ (place : ℕ). place < end) (replicate n from)
below-headers end zero from within = All-nil (λ (place : ℕ). place < end)
below-headers end (suc n) from within = All-cons (λ (place : ℕ). place < end) from (replicate n from) within (below-headers end n from within)

pub counted-within : (at end : ℕ) (packets : List PlacedPacket) → StandFrom at packets end → All (λ (p : PlacedPacket). p.from < p.end) packets
    → All (λ (place : ℕ). place < end) (counted_places packets)
counted-within at end [] stand some = All-nil (λ (place : ℕ). place < end)
counted-within at end (p ∷ ps) stand some =
    let order : p.end ≤ end = stand-order p.end ps end stand.2 in
    let own : p.from < p.end = All-head (λ (q : PlacedPacket). q.from < q.end) p ps some in
    All-append (λ (place : ℕ). place < end) (replicate p.header.len p.from ++ range_with_len p.from (p.end - p.from)) (counted_places ps)
    (All-append (λ (place : ℕ). place < end) (replicate p.header.len p.from) (range_with_len p.from (p.end - p.from))
    (below-headers end p.header.len p.from (omega (arith, order, own))) (below-range end (p.end - p.from) p.from (omega (arith, order, stand.1))))
    (counted-within p.end end ps stand.2 (All-tail (λ (q : PlacedPacket). q.from < q.end) p ps some))

-- ---- what frames remove

-- removals that take of each frame its bytes and the headers that begin in it take so many bytes at each frame's value
pub removed-by : (value : ℤ → ℕ) (removal : Frame → Removal) (end : ℕ) (packets : List PlacedPacket) (frames : List Frame) → StandFrom 0 packets end
    → ((frame : Frame) → 940 * (removal frame).due ≡ value frame.time) → ((frame : Frame) → (removal frame).bytes ≡ frame.len + header_bytes_in frame packets)
    → All (λ (frame : Frame). frame.at + frame.len ≤ end) frames → removed (map removal frames) ≡ by_frames value frames (counted_places packets)
unfolding removed
removed-by value removal end packets [] stand due bytes within = refl
removed-by value removal end packets (f ∷ fs) stand due bytes within =
    let inside : f.at + f.len ≤ end = All-head (λ (frame : Frame). frame.at + frame.len ≤ end) f fs within in
    let counted = counted-in f 0 end packets stand in
    let own : (removal f).bytes ≡ count_by (lies_in f) (counted_places packets) =
    bytes f ∙ (let e : f.len + header_bytes_in f packets ≡ count_by (lies_in f) (counted_places packets) = omega (arith, counted, inside) in e) in
    ap₂ (λ (xs ys : List ℕ). xs ++ ys) (ap₂ (λ (n at : ℕ). replicate n at) own (due f))
    (removed-by value removal end packets fs stand due bytes (All-tail (λ (frame : Frame). frame.at + frame.len ≤ end) f fs within))

-- ---- pieces

range-append : (from m n : ℕ) → range_with_len from (m + n) ≡ range_with_len from m ++ range_with_len (from + m) n
range-append from zero n = ap₂ range_with_len (let e : from ≡ from + 0 = omega arith in e) (let e : 0 + n ≡ n = omega arith in e)
range-append from (suc m) n =
    ap (range_with_len from) (let e : suc m + n ≡ suc (m + n) = omega arith in e)
    ∙ ap (λ (xs : List ℕ). from ∷ xs) (range-append (from + 1) m n)
    ∙ ap (λ (k : ℕ). from ∷ range_with_len (from + 1) m ++ range_with_len k n) (let e : from + 1 + m ≡ from + suc m = omega arith in e)

-- the bytes of a header count with the payload's first byte
header-places : (packet : PlacedPacket) (from n : ℕ) → from + n ≤ packet.header.len → map (payload_place packet) (range_with_len from n) ≡ replicate n packet.from
header-places packet from zero within = refl
header-places packet from (suc n) within =
    ap₂ (λ (x : ℕ) (xs : List ℕ). x ∷ xs) (let e : packet.from + (from - packet.header.len) ≡ packet.from = omega (arith, within) in e) (header-places packet (from + 1) n (omega (arith, within)))

payload-places : (packet : PlacedPacket) (from n : ℕ) → packet.header.len ≤ from
    → map (payload_place packet) (range_with_len from n) ≡ range_with_len (payload_place packet from) n
payload-places packet from zero behind = refl
payload-places packet from (suc n) behind =
    ap (λ (xs : List ℕ). payload_place packet from ∷ xs)
    (payload-places packet (from + 1) n (omega (arith, behind))
    ∙ ap (λ (k : ℕ). range_with_len k n) (let e : packet.from + (from + 1 - packet.header.len) ≡ packet.from + (from - packet.header.len) + 1 = omega (arith, behind) in e))

own-places : (packet : PlacedPacket) → map (payload_place packet) (range_with_len 0 (packet_size packet))
    ≡ replicate packet.header.len packet.from ++ range_with_len packet.from (packet.end - packet.from)
own-places packet =
    ap (map (payload_place packet)) (range-append 0 packet.header.len (packet.end - packet.from))
    ∙ map-append (payload_place packet) (range_with_len 0 packet.header.len) (range_with_len (0 + packet.header.len) (packet.end - packet.from))
    ∙ ap₂ (λ (xs ys : List ℕ). xs ++ ys) (header-places packet 0 packet.header.len (omega arith))
    (payload-places packet (0 + packet.header.len) (packet.end - packet.from) (omega arith)
    ∙ ap (λ (k : ℕ). range_with_len k (packet.end - packet.from)) (let e : packet.from + (0 + packet.header.len - packet.header.len) ≡ packet.from = omega arith in e))

-- the places of the bytes of a piece
abbrev pub piece_bytes : PlacedPacket × ℕ × ℕ → List ℕ
piece_bytes place = map (payload_place place.0) (range_with_len place.2 (piece_size (packet_size place.0) place.2))

-- pieces from one on cover the bytes from its place on
cut-from : (packet : PlacedPacket) (at k n : ℕ) → k + n ≡ (packet_size packet + 183) / 184
    → flat_map piece_bytes (map (λ (from : ℕ). (packet, at, from)) (map (λ (j : ℕ). 184 * j) (range_with_len k n)))
    ≡ map (payload_place packet) (range_with_len (184 * k) (packet_size packet - 184 * k))
cut-from packet at k zero count = ap (λ (n : ℕ). map (payload_place packet) (range_with_len (184 * k) n)) (let e : 0 ≡ packet_size packet - 184 * k = omega (arith, count) in e)
cut-from packet at k (suc n) count =
    let sum : packet_size packet - 184 * k ≡ piece_size (packet_size packet) (184 * k) + (packet_size packet - 184 * (k + 1)) = omega arith in
    ap (λ (xs : List ℕ). map (payload_place packet) (range_with_len (184 * k) (piece_size (packet_size packet) (184 * k))) ++ xs)
    (cut-from packet at (k + 1) n (omega (arith, count)) ∙ ap (map (payload_place packet)) (next (packet_size packet) k (packet_size packet - 184 * (k + 1)) refl))
    ∙ sym (map-append (payload_place packet) (range_with_len (184 * k) (piece_size (packet_size packet) (184 * k)))
    (range_with_len (184 * k + piece_size (packet_size packet) (184 * k)) (packet_size packet - 184 * (k + 1))))
    ∙ ap (map (payload_place packet)) (sym (range-append (184 * k) (piece_size (packet_size packet) (184 * k)) (packet_size packet - 184 * (k + 1))) ∙ ap (range_with_len (184 * k)) (sym sum))
  where
    next : (total k left : ℕ) → total - 184 * (k + 1) ≡ left → range_with_len (184 * (k + 1)) left ≡ range_with_len (184 * k + piece_size total (184 * k)) left
    next total k zero is = refl
    next total k (suc left) is = ap (λ (from : ℕ). range_with_len from (suc left)) (let e : 184 * (k + 1) ≡ 184 * k + min 184 (total - 184 * k) = omega (arith, is) in e)

-- the places of the bytes of all pieces
pub pieces-cover : (at : ℕ) (packets : List PlacedPacket) → flat_map piece_bytes (placed_pieces at packets) ≡ counted_places packets
pieces-cover at [] = refl
pieces-cover at (p ∷ ps) =
    flat_map-append piece_bytes (map (λ (from : ℕ). (p, at, from)) (map (λ (j : ℕ). 184 * j) (range_with_len 0 ((packet_size p + 183) / 184)))) (placed_pieces (at + packet_size p) ps)
    ∙ ap₂ (λ (xs ys : List ℕ). xs ++ ys)
    (cut-from p at 0 ((packet_size p + 183) / 184) (omega arith)
    ∙ ap₂ (λ (from n : ℕ). map (payload_place p) (range_with_len from n)) (let e : 184 * 0 ≡ 0 = omega arith in e) (let e : packet_size p - 184 * 0 ≡ packet_size p = omega arith in e)
    ∙ own-places p)
    (pieces-cover (at + packet_size p) ps)

-- ---- between due and gone

low-values : (low : ℕ) (g : ℕ → ℕ) (from n : ℕ) → ((byte : ℕ) → from ≤ byte → byte < from + n → low ≤ g byte) → AllZip (λ x y. x ≤ y) (replicate n low) (map g (range_with_len from n))
low-values low g from zero each = tt
low-values low g from (suc n) each = (each from (omega arith) (omega arith), low-values low g (from + 1) n (λ byte order within. each byte (omega (arith, order)) (omega (arith, within))))

high-values : (high : ℕ) (g : ℕ → ℕ) (from n : ℕ) → ((byte : ℕ) → from ≤ byte → byte < from + n → g byte ≤ high) → AllZip (λ x y. x ≤ y) (map g (range_with_len from n)) (replicate n high)
high-values high g from zero each = tt
high-values high g from (suc n) each = (each from (omega arith) (omega arith), high-values high g (from + 1) n (λ byte order within. each byte (omega (arith, order)) (omega (arith, within))))

-- the values of frames as removals have them: where a time is due, they are its due in subticks, and later times have no lower ones
pub record IsValueOf (start : ℕ) (earliest : ℤ) (value : ℤ → ℕ) : Type 0 where
  pub at_due : (time : ℤ) (due : ℕ) → IsDue start earliest time due → value time ≡ 940 * due
  pub later : (first second : ℤ) → first ≤ℤ second → value first ≤ value second

abbrev value_at : (value : ℤ → ℕ) → List Frame → ℕ → ℕ
value_at value frames place = value (time_of_byte frames place)

abbrev dues_of : List AudioPiece → List ℕ
dues_of pieces = flat_map (λ piece. replicate piece.packet.bytes (940 * piece.packet.due)) pieces

abbrev gones_of : List AudioPiece → List ℕ
gones_of pieces = flat_map (λ piece. replicate piece.packet.bytes (940 * piece.packet.gone)) pieces

-- no byte counts with an earlier frame than a byte before it
abbrev pub RiseAlong : List Frame → ℕ → Type 0
RiseAlong frames size = (first second : ℕ) → first ≤ second → second < size → time_of_byte frames first ≤ℤ time_of_byte frames second

pub pieces-wanted : (start : ℕ) (earliest : ℤ) (value : ℤ → ℕ) (frames : List Frame) (size low : ℕ) (places : List (PlacedPacket × ℕ × ℕ)) (pieces : List AudioPiece)
    → IsValueOf start earliest value → RiseAlong frames size → ArePieces start earliest frames places pieces → Follow size low places
    → AllZip (λ x y. x ≤ y) (flat_map (λ piece. replicate piece.packet.bytes (940 * piece.packet.due)) pieces) (map (value_at value frames) (flat_map piece_bytes places))
pieces-wanted start earliest value frames size low [] [] is rise are follow = tt
pieces-wanted start earliest value frames size low [] (x ∷ xs) is rise are follow = absurd are
pieces-wanted start earliest value frames size low (p ∷ ps) [] is rise are follow = absurd are
pieces-wanted start earliest value frames size low (p ∷ ps) (x ∷ xs) is rise are follow =
    let own : AllZip (λ x y. x ≤ y) (replicate (piece_size (packet_size p.0) p.2) (940 * x.packet.due))
    (map (λ (byte : ℕ). value_at value frames (payload_place p.0 byte)) (range_with_len p.2 (piece_size (packet_size p.0) p.2))) =
    low-values (940 * x.packet.due) (λ (byte : ℕ). value_at value frames (payload_place p.0 byte)) p.2 (piece_size (packet_size p.0) p.2)
    (λ byte order within.
    let due : value (time_of_byte frames (payload_place p.0 p.2)) ≡ 940 * x.packet.due = is.at_due (time_of_byte frames (payload_place p.0 p.2)) x.packet.due are.0.due in
    let least = is.later (time_of_byte frames (payload_place p.0 p.2)) (time_of_byte frames (payload_place p.0 byte))
    (rise (payload_place p.0 p.2) (payload_place p.0 byte) (omega (arith, order)) (inside p.0.from p.0.header.len p.2 (piece_size (packet_size p.0) p.2) byte size within follow.4)) in
    omega (arith, due, least)) in
    subst (λ (ys : List ℕ). AllZip (λ x y. x ≤ y) (dues_of (x ∷ xs)) ys)
    (sym (map-append (value_at value frames) (piece_bytes p) (flat_map piece_bytes ps)))
    (AllZip-append (λ x y. x ≤ y) (replicate x.packet.bytes (940 * x.packet.due)) (map (value_at value frames) (piece_bytes p)) (dues_of xs) (map (value_at value frames) (flat_map piece_bytes ps))
    (subst (λ (n : ℕ). AllZip (λ x y. x ≤ y) (replicate n (940 * x.packet.due)) (map (value_at value frames) (piece_bytes p))) (sym are.0.bytes)
    (subst (λ (ys : List ℕ). AllZip (λ x y. x ≤ y) (replicate (piece_size (packet_size p.0) p.2) (940 * x.packet.due)) ys)
    (sym (map-map (value_at value frames) (payload_place p.0) (range_with_len p.2 (piece_size (packet_size p.0) p.2)))) own))
    (pieces-wanted start earliest value frames size (last_byte p) ps xs is rise are.1 follow.5))
  where
    inside : (from len at n byte size : ℕ) → byte < at + n → from + (at + n - 1 - len) < size → from + (byte - len) < size
    inside from len at n byte size within last = omega (arith, within, last)

pub pieces-gone : (start : ℕ) (earliest : ℤ) (value : ℤ → ℕ) (frames : List Frame) (size low : ℕ) (places : List (PlacedPacket × ℕ × ℕ)) (pieces : List AudioPiece)
    → IsValueOf start earliest value → RiseAlong frames size → ArePieces start earliest frames places pieces → Follow size low places
    → AllZip (λ x y. x ≤ y) (map (value_at value frames) (flat_map piece_bytes places)) (flat_map (λ piece. replicate piece.packet.bytes (940 * piece.packet.gone)) pieces)
pieces-gone start earliest value frames size low [] [] is rise are follow = tt
pieces-gone start earliest value frames size low [] (x ∷ xs) is rise are follow = absurd are
pieces-gone start earliest value frames size low (p ∷ ps) [] is rise are follow = absurd are
pieces-gone start earliest value frames size low (p ∷ ps) (x ∷ xs) is rise are follow =
    let own : AllZip (λ x y. x ≤ y) (map (λ (byte : ℕ). value_at value frames (payload_place p.0 byte)) (range_with_len p.2 (piece_size (packet_size p.0) p.2)))
    (replicate (piece_size (packet_size p.0) p.2) (940 * x.packet.gone)) =
    high-values (940 * x.packet.gone) (λ (byte : ℕ). value_at value frames (payload_place p.0 byte)) p.2 (piece_size (packet_size p.0) p.2)
    (λ byte order within.
    let gone : value (time_of_byte frames (last_byte p)) ≡ 940 * x.packet.gone = is.at_due (time_of_byte frames (last_byte p)) x.packet.gone are.0.gone in
    let most = is.later (time_of_byte frames (payload_place p.0 byte)) (time_of_byte frames (last_byte p))
    (rise (payload_place p.0 byte) (last_byte p) (before p.0.from p.0.header.len p.2 (piece_size (packet_size p.0) p.2) byte within) follow.4) in
    omega (arith, gone, most)) in
    subst (λ (ys : List ℕ). AllZip (λ x y. x ≤ y) ys (gones_of (x ∷ xs)))
    (sym (map-append (value_at value frames) (piece_bytes p) (flat_map piece_bytes ps)))
    (AllZip-append (λ x y. x ≤ y) (map (value_at value frames) (piece_bytes p)) (replicate x.packet.bytes (940 * x.packet.gone)) (map (value_at value frames) (flat_map piece_bytes ps)) (gones_of xs)
    (subst (λ (n : ℕ). AllZip (λ x y. x ≤ y) (map (value_at value frames) (piece_bytes p)) (replicate n (940 * x.packet.gone))) (sym are.0.bytes)
    (subst (λ (ys : List ℕ). AllZip (λ x y. x ≤ y) ys (replicate (piece_size (packet_size p.0) p.2) (940 * x.packet.gone)))
    (sym (map-map (value_at value frames) (payload_place p.0) (range_with_len p.2 (piece_size (packet_size p.0) p.2)))) own))
    (pieces-gone start earliest value frames size (last_byte p) ps xs is rise are.1 follow.5))
  where
    before : (from len at n byte : ℕ) → byte < at + n → from + (byte - len) ≤ from + (at + n - 1 - len)
    before from len at n byte within = omega (arith, within)
