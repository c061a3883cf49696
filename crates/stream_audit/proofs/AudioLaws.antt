-- An audio stream as the judge takes it: its frames stand one behind the other, their removals don't fall back, and the PES packets that are taken are the first ones.
use Rattle.std.proofs.Common.{◌≡◌, ℕ, ◌+◌, ◌<◌, ◌≤◌, Bool, true, false, cond, List, [], ◌∷◌, length, map, take, get_or, All, ℤ, pos, negsuc, ◌+ℤ◌, ◌≤ℤ◌, ◌<ℤ◌, refl, sym, ap, subst, arith}
use Rattle.std.specs.List.Sorted.{IsNonDecreasing}
use Rattle.std.proofs.lemmas.Int.{ints}
use Rattle.std.proofs.lemmas.List.{get_or-map, length-map}
use Rattle.std.proofs.lemmas.List.Elements.{All-cons, All-head, All-nil}
use Rattle.std.proofs.lemmas.List.Sorted.{IsNonDecreasingBy-from_all_adjacent}
use Rattle.std.proofs.lemmas.Simd.{map-map}
use Rattle.list_types.specs.Spans.{spans}
use Rattle.audio_frames.specs.declared.frame.Frame.{Frame}
use Rattle.audio_frames.specs.Times.{AreRising}
use Rattle.pes_units.specs.PesPackets.{is_dropped}
use Rattle.tstd_model.specs.declared.decoder_input.Removal.{Removal}
use Rattle.ts_demux.specs.declared.demuxed.PesUnit.{PesUnit}
use Rattle.stream_audit.specs.declared.frame_removals.FrameClock.{FrameClock}
use Rattle.elementary_streams.specs.declared.pes_packets.PlacedPacket.{PlacedPacket}
use Rattle.stream_audit.specs.Clock.{shift}
use Rattle.elementary_streams.specs.Packets.{pes_payload_of, placed_from, taken}
use Rattle.stream_audit.specs.Removals.{not_before_zero, removed_at}
use Rattle.stream_audit.specs.Private.FrameRemovals.{AreChained, Climb, frame_removal}
use Rattle.audio_frames.proofs.Timed.{span}

-- ---- frames cover their payload

abbrev first_of : List (ℕ × ℕ) → ℕ × ℕ
first_of [] = (0, 0)
first_of (x ∷ xs) = x

abbrev rest_of : List (ℕ × ℕ) → List (ℕ × ℕ)
rest_of [] = []
rest_of (x ∷ xs) = xs

pub spans_chained : (from : ℕ) (cuts : List ℕ) (end : ℕ) (frames : List Frame) → map span frames ≡ spans from cuts end → AreChained from frames
spans_chained from cuts end [] are = tt
spans_chained from [] end (frame ∷ []) are = (ap (λ (xs : List (ℕ × ℕ)). (first_of xs).0) are, tt)
spans_chained from [] end (frame ∷ next ∷ frames) are = absurd (let none : map span (next ∷ frames) ≡ [] = ap rest_of are in cc)
spans_chained from (cut ∷ cuts) end (frame ∷ frames) are =
    let ends : frame.at + frame.len ≡ cut = ap (λ (xs : List (ℕ × ℕ)). (first_of xs).1) are in (
      ap (λ (xs : List (ℕ × ℕ)). (first_of xs).0) are,
      subst (λ (n : ℕ). AreChained n frames) (sym ends) (spans_chained cut cuts end frames (ap rest_of are)),
    )

pub spans_within : (from : ℕ) (cuts : List ℕ) (end : ℕ) (frames : List Frame) → map span frames ≡ spans from cuts end → All (λ frame. frame.at + frame.len ≤ end) frames
spans_within from cuts end [] are = All-nil (λ (frame : Frame). frame.at + frame.len ≤ end)
spans_within from [] end (frame ∷ []) are =
    let ends : frame.at + frame.len ≡ end = ap (λ (xs : List (ℕ × ℕ)). (first_of xs).1) are in
    All-cons (λ (frame : Frame). frame.at + frame.len ≤ end) frame [] (omega (arith, ends)) (All-nil (λ (frame : Frame). frame.at + frame.len ≤ end))
spans_within from [] end (frame ∷ next ∷ frames) are = absurd (let none : map span (next ∷ frames) ≡ [] = ap rest_of are in cc)
spans_within from (cut ∷ cuts) end (frame ∷ []) are = absurd (some_spans cut cuts end (ap rest_of are))
  where
    some_spans : (from : ℕ) (cuts : List ℕ) (end : ℕ) → [] ≡ spans from cuts end → ⊥
    some_spans from [] end is = cc
    some_spans from (cut ∷ cuts) end is = cc
spans_within from (cut ∷ cuts) end (frame ∷ next ∷ frames) are =
    let rest : map span (next ∷ frames) ≡ spans cut cuts end = ap rest_of are in
    let later = spans_within cut cuts end (next ∷ frames) rest in
    let ends : frame.at + frame.len ≡ cut = ap (λ (xs : List (ℕ × ℕ)). (first_of xs).1) are in
    let begins : next.at ≡ cut = (spans_chained cut cuts end (next ∷ frames) rest).0 in
    let least = All-head (λ (frame : Frame). frame.at + frame.len ≤ end) next frames later in
    All-cons (λ (frame : Frame). frame.at + frame.len ≤ end) frame (next ∷ frames) (omega (arith, ends, begins, least)) later

-- ---- payloads that begin one behind the other

pub places_climb : (from low : ℕ) (packets : List PesUnit) → low ≤ from → Climb low (placed_from from packets)
places_climb from low [] le = tt
places_climb from low (packet ∷ packets) le = (le, places_climb (from + length (pes_payload_of packet)) from packets (omega arith))

-- ---- those that are taken are the first ones

pub taken_front : (video : Bool) (packets : List PesUnit) → taken video packets ≡ take (length (taken video packets)) packets
taken_front video [] = refl
taken_front video (packet ∷ []) = by_test (is_dropped video packet.bytes)
  where
    by_test : (dropped : Bool) → cond dropped [] (packet ∷ []) ≡ take (length (cond dropped [] (packet ∷ []))) (packet ∷ [])
    by_test true = refl
    by_test false = refl
taken_front video (packet ∷ next ∷ more) = ap (λ (ps : List PesUnit). packet ∷ ps) (taken_front video (next ∷ more))

-- ---- removals don't fall back

later_by : (first second moved one other : ℤ) → one ≡ first +ℤ moved → other ≡ second +ℤ moved → first ≤ℤ second → not_before_zero one ≤ not_before_zero other
later_by first second moved (pos one) (pos other) is is' le = omega (arith, ints, is, is', le)
later_by first second moved (pos one) (negsuc other) is is' le = absurd (omega (arith, ints, is, is', le))
later_by first second moved (negsuc one) other is is' le = omega arith

removed-later : (zero base : ℕ) (first second : ℤ) → first ≤ℤ second → removed_at zero base first ≤ removed_at zero base second
removed-later zero base first second le = later_by first second (shift zero base) (first +ℤ shift zero base) (second +ℤ shift zero base) refl refl le

moved_le : (one other offset : ℤ) → one <ℤ other → (one +ℤ offset) ≤ℤ (other +ℤ offset)
moved_le one other offset lt = omega (arith, ints, lt)

no_frame : Frame
no_frame = record { at = 0; len = 0; time = pos 0 }

pub frames_rise : (clock : FrameClock) (packets : List PlacedPacket) (frames : List Frame) → AreRising (map (λ (frame : Frame). frame.time) frames) (length frames) →
    IsNonDecreasing (map (λ (removal : Removal). removal.due) (map (frame_removal clock packets) frames))
frames_rise clock packets frames rising =
    let dues : List ℕ = map (λ (removal : Removal). removal.due) (map (frame_removal clock packets) frames) in
    let due : Frame → ℕ = λ frame. removed_at clock.zero clock.base (frame.time +ℤ clock.offset) in
    let all : dues ≡ map due frames = map-map (λ (removal : Removal). removal.due) (frame_removal clock packets) frames in
    let count : length (map due frames) ≡ length frames = length-map frames due in
    subst IsNonDecreasing (sym all) (IsNonDecreasingBy-from_all_adjacent (λ (n : ℕ). n) (map due frames) (λ k d less.
    (let step : due (get_or frames k no_frame) ≤ due (get_or frames (k + 1) no_frame) =
    removed-later clock.zero clock.base ((get_or frames k no_frame).time +ℤ clock.offset) ((get_or frames (k + 1) no_frame).time +ℤ clock.offset)
    (moved_le (get_or frames k no_frame).time (get_or frames (k + 1) no_frame).time clock.offset (times k (omega (arith, less, count)))) in
    omega (
      arith,
      step,
      get_or-map due frames k no_frame d (omega (arith, less, count)),
      get_or-map due frames (k + 1) no_frame d (omega (arith, less, count)),
    ))))
  where
    times : (k : ℕ) → k + 1 < length frames → (get_or frames k no_frame).time <ℤ (get_or frames (k + 1) no_frame).time
    times k less =
        subst (λ (t : ℤ). (get_or frames k no_frame).time <ℤ t) (get_or-map (λ (frame : Frame). frame.time) frames (k + 1) no_frame (pos 0) less)
        (subst (λ (t : ℤ). t <ℤ get_or (map (λ (frame : Frame). frame.time) frames) (k + 1) (pos 0)) (get_or-map (λ (frame : Frame). frame.time) frames k no_frame (pos 0) (omega (arith, less)))
        (rising k less))
