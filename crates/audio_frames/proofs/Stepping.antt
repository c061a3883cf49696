-- A walk over a payload, one step further, and more bytes behind those that have come.
use Rattle.std.proofs.Common.{◌≡◌, ℕ, ◌+◌, ◌-◌, ◌≤◌, ◌<◌, ◌==◌, nat_le, true, false, cond, List, [], ◌∷◌, ◌++◌, length, drop, Option, Some, None, Result, Ok, Err, IfOk, refl, sym, ap, ◌∙◌, subst, arith, append_assoc, length-append, length-drop, inl, inr}
use Rattle.std.proofs.lemmas.List.{append-nil, drop-append-le}
use Rattle.std.proofs.lemmas.Bool.{and_from, and_parts, cases_lt, lt-ltb, le-ltb, le-leb, leb-true, both_ways}
use Rattle.list_types.proofs.Search.{find_range}
use Rattle.audio_frames.specs.declared.audio_fault.AudioFault.{AudioFault}
use Rattle.audio_frames.specs.declared.audio_fault.AudioFault.TheVariants.{NotLayer2, AudioSync}
use Rattle.audio_frames.specs.declared.followed.Followed.{Followed}
use Rattle.audio_frames.specs.declared.frame_header.FrameHeader.{FrameHeader}
use Rattle.audio_frames.specs.declared.place_steps.Stage.{Stage}
use Rattle.audio_frames.specs.declared.place_steps.Stage.TheVariants.{Search, Frames, Broken}
use Rattle.audio_frames.specs.declared.place_steps.Stepped.{Stepped}
use Rattle.audio_frames.specs.declared.sought.Sought.{Sought}
use Rattle.audio_frames.specs.FrameHeader.{frame_length, syncword}
use Rattle.audio_frames.specs.Format.{header_of}
use Rattle.audio_frames.specs.Private.Format.{has_format}
use Rattle.audio_frames.specs.Frames.{is_audio_frame, is_first, is_rest, is_near_end, goes_on, end_of, first_frame, AreFrames}
use Rattle.audio_frames.specs.Walk.{NeverFirst, AlwaysBegun, StopsAt, FramesTo, BreaksOff, IsSettled}
use Rattle.audio_frames.specs.Private.Ahead.{IsFormatAt, IsRestOf}
use Rattle.audio_frames.specs.Private.Followed.{Follows}
use Rattle.audio_frames.specs.Private.Places.{AreApart}
use Rattle.audio_frames.specs.Private.Sought.{AlwaysFirst}
use Rattle.audio_frames.specs.Private.Steps.{NoneBefore, IsStage, Steps, StepsFrom}
use Rattle.audio_frames.proofs.Appended.{syncword_more, length_more, kept_more, format_more}
use Rattle.audio_frames.proofs.Chains.{frames_join, apart_later}
use Rattle.audio_frames.proofs.Following.{rest_behind}
use Rattle.audio_frames.proofs.Formats.{format_goes_on, goes_on_header, header_long, header_stands}
use Rattle.audio_frames.proofs.Rests.{first_behind}

-- ---- more bytes come

module _ (payload more : List ℕ) (first : ℕ) (format : FrameHeader) (is : IsFormatAt payload first format) where
  -- the bytes from a place on
  behind : (at : ℕ) → at ≤ length payload → drop at (payload ++ more) ≡ drop at payload ++ more
  behind at within = drop-append-le at payload more within

  first_long : first + 4 ≤ length payload
  first_long = header_long payload first (header_stands (drop first payload) format is)

  long_at : (at : ℕ) → at + 4 ≤ length payload → 4 ≤ length (drop at payload)
  long_at at long = omega (arith, long, length-drop at payload)

  pub format_grown : IsFormatAt (payload ++ more) first format
  format_grown = ap header_of (behind first (omega (arith, first_long))) ∙ kept_more (drop first payload) more (long_at first first_long) ∙ is

  pub goes_grown : (at : ℕ) → at + 4 ≤ length payload → goes_on (payload ++ more) first at ≡ goes_on payload first at
  goes_grown at long =
      sym (format_goes_on (payload ++ more) first at format format_grown)
      ∙ ap (has_format format) (behind at (omega (arith, long)))
      ∙ format_more (drop at payload) more (long_at at long) format
      ∙ format_goes_on payload first at format is

  end_grown : (at : ℕ) → at + 4 ≤ length payload → end_of (payload ++ more) at ≡ end_of payload at
  end_grown at long = ap (λ (n : ℕ). at + n) (ap frame_length (behind at (omega (arith, long))) ∙ length_more (drop at payload) more (long_at at long))

  frame_grown : (at : ℕ) → is_audio_frame payload first at ≡ true → (is_audio_frame (payload ++ more) first at ≡ true) × (end_of (payload ++ more) at ≡ end_of payload at)
  frame_grown at frame =
      let parts : (goes_on payload first at ≡ true) × (nat_le (end_of payload at) (length payload) ≡ true) = and_parts (goes_on payload first at) (nat_le (end_of payload at) (length payload)) frame in
      let long : at + 4 ≤ length payload = header_long payload at (goes_on_header payload first at parts.0) in
      let whole : end_of payload at ≤ length payload = leb-true (end_of payload at) (length payload) parts.1 in
      let same : end_of (payload ++ more) at ≡ end_of payload at = end_grown at long in (
        and_from (goes_on (payload ++ more) first at) (nat_le (end_of (payload ++ more) at) (length (payload ++ more))) (goes_grown at long ∙ parts.0)
            (le-leb (end_of (payload ++ more) at) (length (payload ++ more)) (omega (arith, same, whole, length-append payload more))),
        same,
      )

  pub frames_grown : (from : ℕ) (places : List ℕ) (end : ℕ) → AreFrames payload first from places end → AreFrames (payload ++ more) first from places end
  frames_grown from [] end are = are
  frames_grown from (place ∷ places) end are =
      let grown = frame_grown place are.1 in
      (are.0, grown.0, subst (λ (n : ℕ). AreFrames (payload ++ more) first n places end) (sym grown.1) (frames_grown (end_of payload place) places end are.2))

  pub stops_grown : (at : ℕ) (fault : AudioFault) → StopsAt payload first at fault → StopsAt (payload ++ more) first at fault
  stops_grown at fault stops = elim (cases_lt (length payload) (at + 4)) [
    | inl near ↦ absurd (both_ways (is_near_end payload at) stops.long (lt-ltb (length payload) (at + 4) near))
    | inr long ↦ record {
      long = le-ltb (length (payload ++ more)) (at + 4) (omega (arith, long, length-append payload more));
      other = goes_grown at long ∙ stops.other;
      fault_is = stops.fault_is ∙ ap (λ (s : ℕ). cond (s == 0xFFF) (NotLayer2 at) (AudioSync at))
          (sym (ap syncword (behind at (omega (arith, long))) ∙ syncword_more (drop at payload) more (long_at at long)));
    }
  ]

begun_grown : (payload more : List ℕ) (first : ℕ) → AlwaysBegun payload first → AlwaysBegun (payload ++ more) first
begun_grown payload more first begun = λ later. subst (λ (p : List ℕ). first_frame p ≡ Some first) (sym (append_assoc payload more later)) (begun (more ++ later))

never_grown : (payload more : List ℕ) (at : ℕ) → NeverFirst payload at → NeverFirst (payload ++ more) at
never_grown payload more at never = λ later. subst (λ (p : List ℕ). is_first p at ≡ false) (sym (append_assoc payload more later)) (never (more ++ later))

pub stage_grown : (payload more given : List ℕ) (at : ℕ) (stage : Stage) → IsSettled payload given at stage → IsStage (payload ++ more) given at stage
stage_grown payload more given at Search settled = (settled.0, λ k lt. never_grown payload more k (settled.1 k lt))
stage_grown payload more given at (Frames format) settled =
    let to = settled.0 in
    record {
      first = to.first;
      begun = begun_grown payload more to.first to.begun;
      format_is = format_grown payload more to.first format to.format_is;
      frames = frames_grown payload more to.first format to.format_is to.first given at to.frames;
    }
stage_grown payload more given at (Broken fault) off = record {
  first = off.first;
  stop = off.stop;
  format = off.format;
  begun = begun_grown payload more off.first off.begun;
  format_is = format_grown payload more off.first off.format off.format_is;
  frames = frames_grown payload more off.first off.format off.format_is off.first given off.stop off.frames;
  stops = stops_grown payload more off.first off.format off.format_is off.stop fault off.stops;
}

-- ---- a step

module _ (format : FrameHeader) (bytes part : List ℕ) (from at : ℕ) (old new : List ℕ) (within : from ≤ length bytes) (is : drop from bytes ≡ part) where
  part_of : (payload : List ℕ) → IsRestOf payload at bytes → IsRestOf payload (at + from) part
  part_of payload rest = subst (IsRestOf payload (at + from)) is (rest_behind payload bytes at from rest within)

  size : length part + from ≡ length bytes
  size = omega (arith, within, length-drop from bytes, ap length is)

  joined : (followed : Followed) (goes : Follows format part (at + from) old new followed) (payload given : List ℕ) (to : FramesTo payload given (at + from) format) → IsRestOf payload at bytes
      → AreFrames payload to.first to.first (given ++ goes.up_to.more) (at + from + followed.done)
  joined followed goes payload given to rest =
      frames_join payload to.first to.first given (at + from) goes.up_to.more (at + from + followed.done) to.frames (goes.up_to.frames payload to.first to.format_is (part_of payload rest))

  pub steps_rest : (done : ℕ) → Follows format part (at + from) old new (record { done = done; broken = None })
      → StepsFrom format bytes from at old new (record { done = from + done; stage = Frames format })
  steps_rest done goes =
      let place : at + from + done ≡ at + (from + done) = omega arith in
      record {
        within = omega (arith, size, goes.up_to.within);
        few = omega (arith, size, goes.few refl);
        more = goes.up_to.more;
        added = goes.up_to.added;
        apart = λ a. subst (AreApart new) place (goes.up_to.apart (apart_later old at (at + from) (omega arith) a));
        walked = λ payload given to rest. (
          record {
            first = to.first;
            begun = to.begun;
            format_is = to.format_is;
            frames = subst (AreFrames payload to.first to.first (given ++ goes.up_to.more)) place (joined (record { done = done; broken = None }) goes payload given to rest);
          },
          subst (λ (n : ℕ). is_rest payload to.first n ≡ true) place (goes.stops payload to.first to.format_is (part_of payload rest)),
        );
      }

  pub steps_resting : (followed : Followed) → followed.broken ≡ None → Follows format part (at + from) old new followed
      → StepsFrom format bytes from at old new (record { done = from + followed.done; stage = Frames format })
  steps_resting followed none goes =
      let same : followed ≡ record { done = followed.done; broken = None } = ap (λ (b : Option AudioFault). record { done = followed.done; broken = b }) none in
      steps_rest followed.done (subst (Follows format part (at + from) old new) same goes)

  pub steps_broken : (done : ℕ) (fault : AudioFault) → Follows format part (at + from) old new (record { done = done; broken = Some fault })
      → StepsFrom format bytes from at old new (record { done = length bytes; stage = Broken fault })
  steps_broken done fault goes = record {
    within = omega arith;
    few = omega arith;
    more = goes.up_to.more;
    added = goes.up_to.added;
    apart = λ a. apart_later new (at + from + done) (at + length bytes) (omega (arith, size, goes.up_to.within)) (goes.up_to.apart (apart_later old at (at + from) (omega arith) a));
    walked = λ payload given to rest. record {
      first = to.first;
      stop = at + from + done;
      format = format;
      begun = to.begun;
      format_is = to.format_is;
      frames = joined (record { done = done; broken = Some fault }) goes payload given to rest;
      stops = goes.stops payload to.first to.format_is (part_of payload rest);
    };
  }

  pub steps_breaking : (followed : Followed) (fault : AudioFault) → followed.broken ≡ Some fault → Follows format part (at + from) old new followed
      → StepsFrom format bytes from at old new (record { done = length bytes; stage = Broken fault })
  steps_breaking followed fault broken goes =
      let same : followed ≡ record { done = followed.done; broken = Some fault } = ap (λ (b : Option AudioFault). record { done = followed.done; broken = b }) broken in
      steps_broken followed.done fault (subst (Follows format part (at + from) old new) same goes)

-- nothing is passed of frames that go on
pub steps_on : (format : FrameHeader) (bytes : List ℕ) (at : ℕ) (old new : List ℕ) (stepped : Stepped) → StepsFrom format bytes 0 at old new stepped → Steps (Frames format) bytes at old new stepped
steps_on format bytes at old new stepped goes =
    let here : at ≡ at + 0 = omega arith in
    record {
      within = goes.within;
      few = goes.few;
      more = goes.more;
      added = goes.added;
      apart = goes.apart;
      walked = λ payload given to rest. goes.walked payload given (subst (λ (n : ℕ). FramesTo payload given n format) here to) rest;
    }

pub steps_off : (fault : AudioFault) (bytes : List ℕ) (at : ℕ) (old : List ℕ) → Steps (Broken fault) bytes at old old (record { done = length bytes; stage = Broken fault })
steps_off fault bytes at old = record {
  within = omega arith;
  few = omega arith;
  more = [];
  added = sym (append-nil old);
  apart = λ a. apart_later old at (at + length bytes) (omega arith) a;
  walked = λ payload given off rest. subst (λ (g : List ℕ). BreaksOff payload g fault) (sym (append-nil given)) off;
}

-- ---- the search

-- no first frame begins before a place of the bytes
none_up_to : (payload bytes : List ℕ) (at s : ℕ) → NoneBefore payload at → IsRestOf payload at bytes → ((k : ℕ) → k < s → NeverFirst bytes k) → NoneBefore payload (at + s)
none_up_to payload bytes at s none rest passed = λ k lt. elim (cases_lt k at) [
  | inl before ↦ none k before
  | inr here ↦ (let sum : at + (k - at) ≡ k = omega (arith, here) in
      λ more. subst (λ (n : ℕ). is_first (payload ++ more) n ≡ false) sum (first_behind payload bytes more at (k - at) rest ∙ passed (k - at) (omega (arith, lt, here)) more))
]

pub begun_at : (payload : List ℕ) (first : ℕ) → first < length payload → NoneBefore payload first → AlwaysFirst payload first → AlwaysBegun payload first
begun_at payload first within none always = λ more.
    find_range (is_first (payload ++ more)) (length (payload ++ more)) 0 first (omega arith) (omega (arith, within, length-append payload more)) (always more) (λ k low high. none k high more)

module _ (bytes : List ℕ) (at : ℕ) (old : List ℕ) (sought : Sought) (passed : (k : ℕ) → k < sought.at → NeverFirst bytes k) (within : sought.at ≤ length bytes) where
  pub search_open : length bytes - sought.at ≤ 3460 → Steps Search bytes at old old (record { done = sought.at; stage = Search })
  search_open few = record {
    within = within;
    few = few;
    more = [];
    added = sym (append-nil old);
    apart = λ a. apart_later old at (at + sought.at) (omega arith) a;
    walked = λ payload given none rest. (append-nil given ∙ none.0, none_up_to payload bytes at sought.at none.1 rest passed);
  }

  pub search_found : (format : FrameHeader) (new : List ℕ) (stepped : Stepped) → header_of (drop sought.at bytes) ≡ Some format → AlwaysFirst bytes sought.at
      → StepsFrom format bytes sought.at at old new stepped → Steps Search bytes at old new stepped
  search_found format new stepped header always goes = record {
    within = goes.within;
    few = goes.few;
    more = goes.more;
    added = goes.added;
    apart = goes.apart;
    walked = λ payload given none rest.
        (let behind : IsRestOf payload (at + sought.at) (drop sought.at bytes) = rest_behind payload bytes at sought.at rest within in
        let format_is : IsFormatAt payload (at + sought.at) format = ap header_of behind.1 ∙ header in
        let long : at + sought.at + 4 ≤ length payload = header_long payload (at + sought.at) (header_stands (drop (at + sought.at) payload) format format_is) in
        goes.walked payload given
        (record {
          first = at + sought.at;
          begun = begun_at payload (at + sought.at) (omega (arith, long)) (none_up_to payload bytes at sought.at none.1 rest passed)
              (λ more. first_behind payload bytes more at sought.at rest ∙ always more);
          format_is = format_is;
          frames = rw none.0 refl;
        }) rest);
  }

-- ---- a walk

-- what is known of each value is known of an answer
pub on_ok : {T E : Type 0} (r : Result T E) (P Q : T → Type 0) → ((x : T) → P x → Q x) → IfOk r P → IfOk r Q
on_ok (Ok x) P Q each holds = each x holds
on_ok (Err e) P Q each holds = tt

-- a walk behind the bytes that come next
pub walked_more : (payload piece kept all places new : List ℕ) (at : ℕ) (stage : Stage) (stepped : Stepped) → at ≤ length payload → drop at payload ≡ kept → all ≡ kept ++ piece
    → IsSettled payload places at stage → Steps stage all at places new stepped
    → (at + stepped.done ≤ length (payload ++ piece)) × (drop (at + stepped.done) (payload ++ piece) ≡ drop stepped.done all)
    × IsSettled (payload ++ piece) new (at + stepped.done) stepped.stage
walked_more payload piece kept all places new at stage stepped within is joins settled goes =
    let rest : IsRestOf (payload ++ piece) at all =
    (omega (arith, within, length-append payload piece), drop-append-le at payload piece within ∙ ap (λ (b : List ℕ). b ++ piece) is ∙ sym joins) in
    let behind : IsRestOf (payload ++ piece) (at + stepped.done) (drop stepped.done all) = rest_behind (payload ++ piece) all at stepped.done rest goes.within in (
      behind.0,
      behind.1,
      subst (λ (xs : List ℕ). IsSettled (payload ++ piece) xs (at + stepped.done) stepped.stage) (sym goes.added)
          (goes.walked (payload ++ piece) places (stage_grown payload piece places at stage settled) rest),
    )
