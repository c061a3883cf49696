-- How many audio frames there are, and how far from 0 their times are.
use Rattle.std.proofs.Common.{◌≡◌, ℕ, zero, suc, ◌+◌, ◌-◌, ◌*◌, ◌/◌, ◌<◌, ◌≤◌, ◌==◌, nat_le, Bool, true, false, cond, List, [], ◌∷◌, length, drop, map, filter, get_or, All, Option, None, Some, IfSome, if◌then◌else◌, refl, ap, subst, arith, ℤ, pos, neg_ℤ, ◌+ℤ◌, ◌*ℤ◌, ◌≤ℤ◌}
use Rattle.std.specs.Prelude.{slice_index, option_and_then}
use Rattle.std.specs.List.{last_or}
use Rattle.std.proofs.lemmas.Bool.{and_parts, leb-true}
use Rattle.std.proofs.lemmas.Int.{ints}
use Rattle.std.proofs.lemmas.List.{get_or-map, length-map, length-drop}
use Rattle.std.proofs.lemmas.List.Elements.{All-tail}
use Rattle.audio_frames.specs.declared.frame.Frame.{Frame}
use Rattle.audio_frames.specs.declared.pes_start.PesStart.{PesStart}
use Rattle.audio_frames.specs.FrameHeader.{id, sampling_index, bit_rate_index, padding_bit, sampling_rate, frame_length, is_header}
use Rattle.audio_frames.specs.Frames.{goes_on, end_of, is_first, AreFrames, AreAllFrames}
use Rattle.audio_frames.specs.Times.{pes_packet_of, is_first_frame_in, given_time, frame_ticks, IsTimeOf, rate_of, AreFramesOf}
use Rattle.list_types.specs.Spans.{spans}
use Rattle.audio_frames.proofs.Chains.{some_frame}
use Rattle.audio_frames.proofs.Formats.{frame_header}
use Rattle.audio_frames.proofs.Places.{found_passes}
use Rattle.audio_frames.proofs.Tables.{entry_within, quotient_small}
use Rattle.elementary_streams.specs.NearTimes.{IsNear, AreNear, IsTime}

-- ---- what a header says

rates : (b : Bool) (i k p : ℕ) → i ≤ 2 → 8 ≤ k → let r = slice_index (if b then 44100 ∷ 48000 ∷ 32000 ∷ [] else 22050 ∷ 24000 ∷ 16000 ∷ []) i in
    (16000 ≤ r) × (1 ≤ 144 * (1000 * k) / r + p)
rates true zero k p i_le k_le = (omega arith, omega arith)
rates true (suc zero) k p i_le k_le = (omega arith, omega arith)
rates true (suc (suc zero)) k p i_le k_le = (omega arith, omega arith)
rates true (suc (suc (suc i))) k p i_le k_le = absurd (omega arith)
rates false zero k p i_le k_le = (omega arith, omega arith)
rates false (suc zero) k p i_le k_le = (omega arith, omega arith)
rates false (suc (suc zero)) k p i_le k_le = (omega arith, omega arith)
rates false (suc (suc (suc i))) k p i_le k_le = absurd (omega arith)

kilos : (b : Bool) (k : ℕ) → k < 14 → 8 ≤ slice_index
    (if b then 32 ∷ 48 ∷ 56 ∷ 64 ∷ 80 ∷ 96 ∷ 112 ∷ 128 ∷ 160 ∷ 192 ∷ 224 ∷ 256 ∷ 320 ∷ 384 ∷ [] else 8 ∷ 16 ∷ 24 ∷ 32 ∷ 40 ∷ 48 ∷ 56 ∷ 64 ∷ 80 ∷ 96 ∷ 112 ∷ 128 ∷ 144 ∷ 160 ∷ []) k
kilos true k lt = (entry_within 8 384 (32 ∷ 48 ∷ 56 ∷ 64 ∷ 80 ∷ 96 ∷ 112 ∷ 128 ∷ 160 ∷ 192 ∷ 224 ∷ 256 ∷ 320 ∷ 384 ∷ []) k refl lt).0
kilos false k lt = (entry_within 8 384 (8 ∷ 16 ∷ 24 ∷ 32 ∷ 40 ∷ 48 ∷ 56 ∷ 64 ∷ 80 ∷ 96 ∷ 112 ∷ 128 ∷ 144 ∷ 160 ∷ []) k refl lt).0

pub header_says : (bytes : List ℕ) → is_header bytes ≡ true → (16000 ≤ sampling_rate bytes) × (1 ≤ frame_length bytes)
header_says bytes is =
    let all = and_parts _ (nat_le (sampling_index bytes) 2) is in
    let most = and_parts _ (nat_le (bit_rate_index bytes) 14) all.0 in
    let least = and_parts _ (nat_le 1 (bit_rate_index bytes)) most.0 in
    let index : sampling_index bytes ≤ 2 = leb-true _ _ all.1 in
    let rate_most : bit_rate_index bytes ≤ 14 = leb-true _ _ most.1 in
    let rate_least : 1 ≤ bit_rate_index bytes = leb-true _ _ least.1 in
    let inside : bit_rate_index bytes - 1 < 14 = omega (arith, rate_most, rate_least) in
    rates (id bytes == 1) (sampling_index bytes) _ (padding_bit bytes) index (kilos (id bytes == 1) (bit_rate_index bytes - 1) inside)

-- ---- how many frames

frames_apart : (payload : List ℕ) (first from : ℕ) (places : List ℕ) (end : ℕ) → AreFrames payload first from places end → from + length places ≤ end
frames_apart payload first from [] end are = omega (arith, are)
frames_apart payload first from (at ∷ places) end are =
    let long : 1 ≤ frame_length (drop at payload) = (header_says (drop at payload) (frame_header payload first at are.1)).1 in
    omega (arith, are.0, long, frames_apart payload first (end_of payload at) places end are.2)

frames_inside : (payload : List ℕ) (first from : ℕ) (places : List ℕ) (end : ℕ) → from ≤ length payload → AreFrames payload first from places end → end ≤ length payload
frames_inside payload first from [] end le are = omega (arith, le, are)
frames_inside payload first from (at ∷ places) end le are =
    frames_inside payload first (end_of payload at) places end
    (leb-true (end_of payload at) (length payload) (and_parts (goes_on payload first at) (nat_le (end_of payload at) (length payload)) are.1).1) are.2

places_few : (payload places : List ℕ) → AreAllFrames payload places → length places ≤ length payload
places_few payload places all =
    let first = all.all.first in
    let begun : first < 0 + length payload = (found_passes (is_first payload) (length payload) 0 first all.all.begun).1 in
    omega (arith, frames_apart payload first first places all.end all.all.frames, frames_inside payload first first places all.end (omega (arith, begun)) all.all.frames)

spans_count : (from : ℕ) (places : List ℕ) (end : ℕ) → length (spans from places end) ≡ suc (length places)
spans_count from [] end = refl
spans_count from (place ∷ places) end = ap suc (spans_count place places end)

pub frames_few : (payload : List ℕ) (starts : List PesStart) (frames : List Frame) → AreFramesOf payload starts frames → length frames ≤ length payload
frames_few payload starts frames are =
    let count : length (map (λ (frame : Frame). (frame.at, frame.at + frame.len)) frames) ≡ length (spans 0 (drop 1 are.places) (length payload)) =
    ap (λ (xs : List (ℕ × ℕ)). length xs) are.cover in
    omega (
      arith,
      count,
      length-map {B = ℕ × ℕ} frames (λ (frame : Frame). (frame.at, frame.at + frame.len)),
      spans_count 0 (drop 1 are.places) (length payload),
      length-drop 1 are.places,
      (some_frame payload are.places are.all).0,
      places_few payload are.places are.all,
    )

-- ---- what a frame's time is made of

abbrev IsNearStart : PesStart → Type 0
IsNearStart start = IfSome start.time (IsNear 4000000)

last_near : (test : PesStart → Bool) (before : Option PesStart) (starts : List PesStart) → IfSome before IsNearStart → All IsNearStart starts →
    IfSome (last_or before (filter test starts)) IsNearStart
last_near test before [] near all = near
last_near test before (s ∷ ss) near all =
    by_test (test s) (last_near test (Some s) ss (all 0 s (omega arith)) (All-tail IsNearStart s ss all)) (last_near test before ss near (All-tail IsNearStart s ss all))
  where
    by_test : (here : Bool) → IfSome (last_or (Some s) (filter test ss)) IsNearStart → IfSome (last_or before (filter test ss)) IsNearStart →
        IfSome (last_or before (cond here (s ∷ filter test ss) (filter test ss))) IsNearStart
    by_test true with_it without = with_it
    by_test false with_it without = without

near_of : (first : Bool) (time : Option ℤ) (given : ℤ) → IfSome time (IsNear 4000000) → (if first then time else None) ≡ Some given → IsNear 4000000 given
near_of true time given near is = subst (λ (t : Option ℤ). IfSome t (IsNear 4000000)) is near
near_of false time given near is = absurd cc

given_near : (starts : List PesStart) (places : List ℕ) (k : ℕ) (given : ℤ) → AreNear 4000000 starts → given_time starts places k ≡ Some given → IsNear 4000000 given
given_near starts places k given near is =
    by_packet (pes_packet_of starts (slice_index places k)) (last_near (λ start. nat_le start.at (slice_index places k)) None starts tt near) is
  where
    by_packet : (packet : Option PesStart) → IfSome packet IsNearStart →
        option_and_then (λ packet. if is_first_frame_in places k packet then packet.time else None) packet ≡ Some given → IsNear 4000000 given
    by_packet None near is = absurd cc
    by_packet (Some packet) near is = near_of (is_first_frame_in places k packet) packet.time given near is

ticks_most : (rate count : ℕ) → 16000 ≤ rate → count ≤ 1099511627776 → frame_ticks rate count ≤ 2137450604396544000
ticks_most rate count least few =
    let small : count * 31104000000 / rate * 16000 ≤ count * 31104000000 = quotient_small (count * 31104000000) rate least in
    small_enough (count * 31104000000 / rate) count small few
  where
    small_enough : (q c : ℕ) → q * 16000 ≤ c * 31104000000 → c ≤ 1099511627776 → q ≤ 2137450604396544000
    small_enough q c le few = omega arith

time_near : (given time : ℤ) (ticks : ℕ) → IsNear 4000000 given → ticks ≤ 2137450604396544000 → time ≡ (pos 300 *ℤ given) +ℤ pos ticks → IsTime time
time_near given time ticks near few is = record { least = low given time ticks near.low is; most = high given time ticks near.high few is }
  where
    low : (g t : ℤ) (n : ℕ) → neg_ℤ (pos (8589934592 + 4000000 * 4294967296)) ≤ℤ g → t ≡ (pos 300 *ℤ g) +ℤ pos n → neg_ℤ (pos 9000000000000000000) ≤ℤ t
    low g t n near is = omega (arith, ints)

    high : (g t : ℤ) (n : ℕ) → g ≤ℤ pos (8589934592 + 4000000 * 4294967296) → n ≤ 2137450604396544000 → t ≡ (pos 300 *ℤ g) +ℤ pos n → t ≤ℤ pos 9000000000000000000
    high g t n near few is = omega (arith, ints)

-- the times of all frames are far from the ends of 64 bits
pub frames_near : (payload : List ℕ) (starts : List PesStart) (frames : List Frame) → AreFramesOf payload starts frames → AreNear 4000000 starts → length payload ≤ 1099511627776 →
    All (λ frame. IsTime frame.time) frames
frames_near payload starts frames are near small k d lt =
    let times = map (λ (frame : Frame). frame.time) frames in
    let few : length times ≡ length frames = length-map frames (λ (frame : Frame). frame.time) in
    let of : IsTimeOf starts are.places (rate_of payload are.places) k (get_or times k (pos 0)) = are.times k (omega (arith, few, lt)) in
    let count : k - of.last ≤ 1099511627776 = omega (arith, frames_few payload starts frames are, lt, small) in
    let rate : 16000 ≤ rate_of payload are.places = (header_says (drop (slice_index are.places 0) payload) (some_frame payload are.places are.all).1).0 in
    subst IsTime (get_or-map (λ (frame : Frame). frame.time) frames k d (pos 0) lt)
    (time_near of.given (get_or times k (pos 0)) (frame_ticks (rate_of payload are.places) (k - of.last)) (given_near starts are.places of.last of.given near of.is_given)
    (ticks_most (rate_of payload are.places) (k - of.last) rate count) of.is)
