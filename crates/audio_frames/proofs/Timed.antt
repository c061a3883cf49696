-- The times of frames, one frame further.
use Rattle.std.proofs.Common.{
  ◌≡◌,
  ℕ,
  suc,
  ◌+◌,
  ◌-◌,
  ◌<◌,
  ◌≤◌,
  List,
  [],
  ◌∷◌,
  ◌++◌,
  length,
  map,
  drop,
  Some,
  None,
  refl,
  sym,
  ap,
  subst,
  ◌∙◌,
  arith,
  inl,
  inr,
  length-append,
  append_assoc,
  ℤ,
  pos,
  ◌+ℤ◌,
  ◌*ℤ◌,
  ◌≤ℤ◌,
  ◌<ℤ◌,
}
use Rattle.std.specs.Prelude.{slice_index}
use Rattle.std.proofs.Math.ListN.{get_or-append, drop_of_length-le}
use Rattle.std.proofs.lemmas.List.{get_or-append-add, length-map, map-append}
use Rattle.std.proofs.Math.Seq.{drop-cons}
use Rattle.std.proofs.lemmas.Bool.{cases_lt}
use Rattle.stream_constants.specs.declared.clock.TheConstants.{TICKS_PER_TIME_UNIT}
use Rattle.audio_frames.specs.Frames.{AreAllFrames}
use Rattle.audio_frames.specs.declared.clock.Clock.{Clock}
use Rattle.audio_frames.specs.declared.frame.Frame.{Frame}
use Rattle.audio_frames.specs.declared.pes_start.PesStart.{PesStart}
use Rattle.audio_frames.specs.Times.{frame_ticks, given_time, IsTimeOf, frame_time_at, AreTimes, AreRising, IsOutOfOrder, AreFramesOf, rate_of}
use Rattle.list_types.specs.Spans.{spans}
use Rattle.audio_frames.specs.Private.Packets.{IsLastGiven, IsClockAt}

time_last : (times : List ℤ) (t : ℤ) (k : ℕ) → k ≡ length times → frame_time_at (times ++ t ∷ []) k ≡ t
time_last times t k is =
    let sum : length times + 0 ≡ k = omega arith in
    subst (λ (k : ℕ). frame_time_at (times ++ t ∷ []) k ≡ t) sum (get_or-append-add times (t ∷ []) 0 (pos 0))

time_before : (times : List ℤ) (t : ℤ) (k : ℕ) → k < length times → frame_time_at (times ++ t ∷ []) k ≡ frame_time_at times k
time_before times t k lt = get_or-append times (t ∷ []) (pos 0) k lt

-- no time is given since
pub given_kept : (starts : List PesStart) (places : List ℕ) (k : ℕ) (given : ℤ) (ago : ℕ) → IsLastGiven starts places k given ago
    → given_time starts places (k + 1) ≡ None → IsLastGiven starts places (k + 1) given (ago + 1)
given_kept starts places k given ago last none =
    let same : k - ago ≡ (k + 1) - (ago + 1) = omega arith in
    record {
      up_to = omega (arith, last.up_to);
      is_given = subst (λ (j : ℕ). given_time starts places j ≡ Some given) same last.is_given;
      none_since = λ j from upto. elim (cases_lt j (k + 1)) [
        | inl before ↦ last.none_since j (omega arith) (omega arith)
        | inr here ↦ (let is : k + 1 ≡ j = omega arith in subst (λ (j : ℕ). given_time starts places j ≡ None) is none)
      ];
    }

-- a time is given
pub given_here : (starts : List PesStart) (places : List ℕ) (k : ℕ) (given : ℤ) → given_time starts places k ≡ Some given → IsLastGiven starts places k given 0
given_here starts places k given is =
    let same : k ≡ k - 0 = omega arith in
    record {
      up_to = omega arith;
      is_given = subst (λ (j : ℕ). given_time starts places j ≡ Some given) same is;
      none_since = λ j from upto. absurd (omega arith);
    }

pub time_is : (starts : List PesStart) (places : List ℕ) (rate k : ℕ) (given : ℤ) (ago : ℕ) (time : ℤ) → IsLastGiven starts places k given ago
    → time ≡ (pos TICKS_PER_TIME_UNIT *ℤ given) +ℤ pos (frame_ticks rate ago) → IsTimeOf starts places rate k time
time_is starts places rate k given ago time last is =
    let count : ago ≡ k - (k - ago) = omega (arith, last.up_to) in
    record {
      last = k - ago;
      given = given;
      up_to = omega arith;
      is_given = last.is_given;
      none_since = last.none_since;
      is = is ∙ ap (λ (n : ℕ). (pos TICKS_PER_TIME_UNIT *ℤ given) +ℤ pos (frame_ticks rate n)) count;
    }

pub times_more : (starts : List PesStart) (places : List ℕ) (rate : ℕ) (times : List ℤ) (k : ℕ) (t : ℤ) → AreTimes starts places rate times
    → k ≡ length times → IsTimeOf starts places rate k t → AreTimes starts places rate (times ++ t ∷ [])
times_more starts places rate times k t are count is = λ j lt. elim (cases_lt j (length times)) [
  | inl before ↦ subst (IsTimeOf starts places rate j) (sym (time_before times t j before)) (are j before)
  | inr last ↦
      (let length_is : length (times ++ t ∷ []) ≡ length times + 1 = length-append times (t ∷ []) in
      let same : k ≡ j = omega (arith, length_is) in
      subst (IsTimeOf starts places rate j) (sym (time_last times t j (omega arith))) (subst (λ (j : ℕ). IsTimeOf starts places rate j t) same is))
]

pub rising_more : (times : List ℤ) (n : ℕ) (t : ℤ) → n + 1 ≡ length times → AreRising times (n + 1) → frame_time_at times n <ℤ t → AreRising (times ++ t ∷ []) (n + 1 + 1)
rising_more times n t count up later = λ k lt. elim (cases_lt (k + 1) (n + 1)) [
  | inl before ↦ rw (time_before times t k (omega arith), time_before times t (k + 1) (omega arith)) (up k before)
  | inr last ↦
      (let same : n ≡ k = omega arith in
      let later' : frame_time_at times k <ℤ t = subst (λ (k : ℕ). frame_time_at times k <ℤ t) same later in
      rw (time_before times t k (omega arith), time_last times t (k + 1) (omega arith)) later')
]

abbrev pub span : Frame → ℕ × ℕ
span frame = (frame.at, frame.at + frame.len)

abbrev pub times_of : List Frame → List ℤ
times_of frames = map (λ (frame : Frame). frame.time) frames

-- What is known while the j-th frame is waiting for its end: its time and where its bytes begin, and the frames before it.
pub record TimedUpTo (size rate : ℕ) (starts : List PesStart) (places : List ℕ) (j : ℕ) (clock : Clock) (begin : ℕ) (frames : List Frame) : Type 0 where
  pub count : length frames ≡ j
  pub at : IsClockAt starts places j clock
  pub same_rate : clock.rate ≡ rate
  pub times : AreTimes starts places rate (times_of frames ++ clock.time ∷ [])
  pub rising : AreRising (times_of frames ++ clock.time ∷ []) (j + 1)
  pub begun : begin ≤ slice_index places j
  pub cover : map span frames ++ spans begin (drop (j + 1) places) size ≡ spans 0 (drop 1 places) size

times_count : (frames : List Frame) (j : ℕ) (time : ℤ) → length frames ≡ j → j + 1 ≡ length (times_of frames ++ time ∷ [])
times_count frames j time count = omega (arith, count, length-append (times_of frames) (time ∷ []), length-map frames (λ (frame : Frame). frame.time))

-- the span of the frame that ends at the next place goes before the others
spans_first : (begin place size j : ℕ) (places : List ℕ) (frame : Frame) → j + 1 < length places → place ≡ slice_index places (j + 1)
    → frame.at ≡ begin → frame.at + frame.len ≡ place → spans begin (drop (j + 1) places) size
    ≡ span frame ∷ spans place (drop (j + 1 + 1) places) size
spans_first begin place size j places frame within place_is at end =
    let next : suc (j + 1) ≡ j + 1 + 1 = omega arith in
    let one : span frame ≡ (begin, place) = ap (λ (a : ℕ). (a, frame.at + frame.len)) at ∙ ap (λ (e : ℕ). (begin, e)) end in
    ap (λ (ps : List ℕ). spans begin ps size) (drop-cons places (j + 1) 0 within)
    ∙ ap (λ (n : ℕ). (begin, slice_index places (j + 1)) ∷ spans (slice_index places (j + 1)) (drop n places) size) next
    ∙ ap (λ (p : ℕ). (begin, p) ∷ spans p (drop (j + 1 + 1) places) size) (sym place_is)
    ∙ ap (λ (s : ℕ × ℕ). s ∷ spans place (drop (j + 1 + 1) places) size) (sym one)

-- a clock's time is the frame's
pub clock_time : (starts : List PesStart) (places : List ℕ) (rate j : ℕ) (clock : Clock) → IsClockAt starts places j clock → clock.rate ≡ rate → IsTimeOf starts places rate j clock.time
clock_time starts places rate j clock at same =
    time_is starts places rate j clock.given clock.ago clock.time at.last (at.time ∙ ap (λ (r : ℕ). (pos TICKS_PER_TIME_UNIT *ℤ clock.given) +ℤ pos (frame_ticks r clock.ago)) same)

pub timed_more : (size rate : ℕ) (starts : List PesStart) (places : List ℕ) (j : ℕ) (clock next : Clock) (begin place : ℕ) (frames : List Frame)
    (frame : Frame) → TimedUpTo size rate starts places j clock begin frames → IsClockAt starts places (j + 1) next → next.rate ≡ clock.rate
    → j + 1 < length places → place ≡ slice_index places (j + 1) → clock.time <ℤ next.time → frame.at ≡ begin → frame.at + frame.len ≡ place
    → frame.time ≡ clock.time → TimedUpTo size rate starts places (j + 1) next place (frames ++ frame ∷ [])
timed_more size rate starts places j clock next begin place frames frame before here same within place_is later at end is =
    let same_times : times_of (frames ++ frame ∷ []) ≡ times_of frames
    ++ clock.time ∷ [] = map-append (λ (frame : Frame). frame.time) frames (frame ∷ []) ∙ ap (λ (t : ℤ). times_of frames ++ t ∷ []) is in
    let count = times_count frames j clock.time before.count in
    let rate_is : next.rate ≡ rate = same ∙ before.same_rate in
    record {
      count = length-append frames (frame ∷ []) ∙ ap (λ (n : ℕ). n + 1) before.count;
      at = here;
      same_rate = rate_is;
      times = rw same_times (times_more starts places rate (times_of frames ++ clock.time ∷ []) (j + 1) next.time before.times count (clock_time starts places rate (j + 1) next here rate_is));
      rising = rw same_times (rising_more (times_of frames ++ clock.time ∷ []) j next.time count before.rising
          (rw (time_last (times_of frames) clock.time j (omega (arith, before.count, length-map frames (λ (frame : Frame). frame.time)))) later));
      begun = omega (arith, place_is);
      cover =
          ap (λ (spans_so_far : List (ℕ × ℕ)). spans_so_far ++ spans place (drop (j + 1 + 1) places) size) (map-append span frames (frame ∷ []))
          ∙ append_assoc (map span frames) (span frame ∷ []) (spans place (drop (j + 1 + 1) places) size)
          ∙ ap (λ (rest : List (ℕ × ℕ)). map span frames ++ rest) (sym (spans_first begin place size j places frame within place_is at end))
          ∙ before.cover;
    }

-- before the first frame has its end
pub timed_first : (size rate : ℕ) (starts : List PesStart) (places : List ℕ) (clock : Clock) → IsClockAt starts places 0 clock → clock.rate ≡ rate → TimedUpTo size rate starts places 0 clock 0 []
timed_first size rate starts places clock at same = record {
  count = refl;
  at = at;
  same_rate = same;
  times = times_more starts places rate [] 0 clock.time (λ k lt. absurd (omega arith)) refl (clock_time starts places rate 0 clock at same);
  rising = λ k lt. absurd (omega arith);
  begun = omega arith;
  cover = refl;
}

-- the last frame has the rest
pub timed_all : (payload : List ℕ) (rate : ℕ) (starts : List PesStart) (places : List ℕ) (j : ℕ) (clock : Clock) (begin : ℕ) (frames : List Frame)
    (frame : Frame) → AreAllFrames payload places → rate ≡ rate_of payload places → TimedUpTo (length payload) rate starts places j clock begin frames
    → j + 1 ≡ length places → frame.at ≡ begin → frame.at + frame.len ≡ length payload → frame.time ≡ clock.time
    → AreFramesOf payload starts (frames ++ frame ∷ [])
timed_all payload rate starts places j clock begin frames frame all rate_is before last at end is =
    let same_times : times_of (frames ++ frame ∷ []) ≡ times_of frames
    ++ clock.time ∷ [] = map-append (λ (frame : Frame). frame.time) frames (frame ∷ []) ∙ ap (λ (t : ℤ). times_of frames ++ t ∷ []) is in
    let behind : drop (j + 1) places ≡ [] = drop_of_length-le places (omega arith) in
    let one : span frame ≡ (begin, length payload) = ap (λ (a : ℕ). (a, frame.at + frame.len)) at ∙ ap (λ (e : ℕ). (begin, e)) end in
    let count : length (frames ++ frame ∷ []) ≡ j + 1 = length-append frames (frame ∷ []) ∙ ap (λ (n : ℕ). n + 1) before.count in
    record {
      places = places;
      all = all;
      cover =
          map-append span frames (frame ∷ [])
          ∙ ap (λ (s : ℕ × ℕ). map span frames ++ s ∷ []) one
          ∙ sym (ap (λ (ps : List ℕ). map span frames ++ spans begin ps (length payload)) behind)
          ∙ before.cover;
      times = rw same_times (subst (λ (r : ℕ). AreTimes starts places r (times_of frames ++ clock.time ∷ [])) rate_is before.times);
      rising = rw (same_times, count) before.rising;
    }

-- a frame that isn't later than the one before it
pub out_of_order : (payload : List ℕ) (rate : ℕ) (starts : List PesStart) (places : List ℕ) (j : ℕ) (clock next : Clock) (begin : ℕ)
    (frames : List Frame) → AreAllFrames payload places → rate ≡ rate_of payload places
    → TimedUpTo (length payload) rate starts places j clock begin frames → IsClockAt starts places (j + 1) next → next.rate ≡ clock.rate
    → j + 1 < length places → next.time ≤ℤ clock.time → IsOutOfOrder payload starts (slice_index places (j + 1))
out_of_order payload rate starts places j clock next begin frames all rate_is before here same within early =
    let count = times_count frames j clock.time before.count in
    let times : List ℤ = times_of frames ++ clock.time ∷ [] in
    let last : frame_time_at times j ≡ clock.time = time_last (times_of frames) clock.time j (omega (arith, before.count, length-map frames (λ (frame : Frame). frame.time))) in
    record {
      places = places;
      all = all;
      times = times ++ next.time ∷ [];
      before = j;
      count = length-append times (next.time ∷ []) ∙ omega (arith, count);
      inside = within;
      place = refl;
      are = subst (λ (r : ℕ). AreTimes starts places r (times ++ next.time ∷ [])) rate_is
          (times_more starts places rate times (j + 1) next.time before.times count
          (clock_time starts places rate (j + 1) next here (same ∙ before.same_rate)));
      rising = λ k lt. rw (time_before times next.time k (omega arith), time_before times next.time (k + 1) (omega arith)) (before.rising k lt);
      not_later = rw (time_last times next.time (j + 1) count, time_before times next.time j (omega arith), last) early;
    }
