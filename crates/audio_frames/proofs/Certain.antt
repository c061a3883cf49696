-- What a walk found stays, and how it ends.
use Rattle.std.proofs.Common.{◌≡◌, ℕ, ◌+◌, ◌-◌, ◌≤◌, ◌<◌, ◌==◌, Bool, true, false, cond, List, [], ◌∷◌, ◌++◌, length, drop, Option, Some, None, Result, Ok, Err, IfErr, refl, sym, ap, ◌∙◌, subst, arith, length-drop, inl, inr}
use Rattle.std.specs.Prelude.{slice_index}
use Rattle.std.proofs.lemmas.List.{append-nil}
use Rattle.std.proofs.lemmas.Bool.{cases_lt}
use Rattle.list_types.proofs.Search.{find_range}
use Rattle.audio_frames.specs.declared.audio_fault.AudioFault.{AudioFault}
use Rattle.audio_frames.specs.declared.audio_fault.AudioFault.TheVariants.{NotLayer2, AudioSync, NoAudioTime, TimeOrder, OutOfMemory}
use Rattle.audio_frames.specs.declared.followed.Followed.{Followed}
use Rattle.audio_frames.specs.declared.frame_header.FrameHeader.{FrameHeader}
use Rattle.audio_frames.specs.declared.place_steps.Stage.{Stage}
use Rattle.audio_frames.specs.declared.place_steps.Stage.TheVariants.{Search, Frames, Broken}
use Rattle.audio_frames.specs.declared.pes_start.PesStart.{PesStart}
use Rattle.audio_frames.specs.FrameHeader.{hertz, syncword}
use Rattle.audio_frames.specs.Format.{header_of}
use Rattle.audio_frames.specs.Frames.{is_first, is_rest, first_frame, AreFrames, AreAllFrames, BreaksAt}
use Rattle.audio_frames.specs.Times.{IsAudioRefused}
use Rattle.audio_frames.specs.Walk.{StopsAt, BreaksOff, IsSettled, AreCertain}
use Rattle.audio_frames.specs.Private.Ahead.{IsFormatAt, IsRestOf}
use Rattle.audio_frames.specs.Private.Followed.{Follows}
use Rattle.audio_frames.specs.Private.Packets.{IsTimedFor, IsTimeRefused}
use Rattle.audio_frames.specs.Private.Places.{AreApart}
use Rattle.audio_frames.specs.Private.Steps.{NoneBefore, IsEnded, IsPlaceRefused}
use Rattle.audio_frames.proofs.Chains.{frames_front, some_frame, apart_later}
use Rattle.audio_frames.proofs.Following.{rest_behind}
use Rattle.audio_frames.proofs.Formats.{index_small, kept_rate}
use Rattle.list_types.proofs.Search.{find_none}
use Rattle.audio_frames.proofs.Places.{found_passes, found_least, none_passes}
use Rattle.audio_frames.proofs.Rests.{first_behind}
use Rattle.audio_frames.proofs.Stepping.{frames_grown}

some_same : (a b : ℕ) → Some a ≡ Some b → a ≡ b
some_same a b is = cc

-- frames at these places whose first one is certain
certain_from : (payload places : List ℕ) (first at : ℕ) (format : FrameHeader) → ((more : List ℕ) → first_frame (payload ++ more) ≡ Some first) → IsFormatAt payload first format
    → AreFrames payload first first places at → AreCertain payload places
certain_from payload places first at format begun is frames = λ more all are.
    (let same : first ≡ are.all.first = some_same first are.all.first (sym (begun more) ∙ are.all.begun) in
    frames_front (payload ++ more) first first places all at are.end (frames_grown payload more first format is first places at frames)
    (subst (λ (f : ℕ). AreFrames (payload ++ more) f f all are.end) (sym same) are.all.frames)
    (subst (λ (f : ℕ). is_rest (payload ++ more) f are.end ≡ true) (sym same) are.rest))

pub certain : (payload places : List ℕ) (at : ℕ) (stage : Stage) → IsSettled payload places at stage → AreCertain payload places
certain payload places at Search settled = λ more all are. (all, ap (λ (xs : List ℕ). xs ++ all) (sym settled.0))
certain payload places at (Frames format) settled = certain_from payload places settled.0.first at format settled.0.begun settled.0.format_is settled.0.frames
certain payload places at (Broken fault) off = certain_from payload places off.first off.stop off.format off.begun off.format_is off.frames

-- ---- no more bytes come

first_now : (payload : List ℕ) (first : ℕ) → ((more : List ℕ) → first_frame (payload ++ more) ≡ Some first) → first_frame payload ≡ Some first
first_now payload first begun = subst (λ (p : List ℕ). first_frame p ≡ Some first) (append-nil payload) (begun [])

first_place : (payload places : List ℕ) (first end : ℕ) → AreFrames payload first first places end → 0 < length places → slice_index places 0 ≡ first
first_place payload [] first end are some = absurd (omega (arith, some))
first_place payload (place ∷ places) first end are some = sym are.0

-- all frames, whose first one has a header that was kept
pub ended_by : (payload places : List ℕ) (first end : ℕ) (format : FrameHeader) → first_frame payload ≡ Some first → IsFormatAt payload first format
    → AreFrames payload first first places end → is_rest payload first end ≡ true → IsEnded payload places format
ended_by payload places first end format begun is frames rest =
    let all : AreAllFrames payload places = record { end = end; all = record { first = first; begun = begun; frames = frames }; rest = rest } in
    record {
      all = all;
      format_is = ap (λ (n : ℕ). header_of (drop n payload)) (first_place payload places first end frames (some_frame payload places all).0) ∙ is;
    }

pub refused_by : (payload places : List ℕ) (first stop : ℕ) (fault : AudioFault) → first_frame payload ≡ Some first → AreFrames payload first first places stop
    → StopsAt payload first stop fault → IsPlaceRefused payload fault
refused_by payload places first stop fault begun frames stops = subst (IsPlaceRefused payload) (sym stops.fault_is) (by_sync (syncword (drop stop payload) == 0xFFF) refl)
  where
    broken : (sync : Bool) → (syncword (drop stop payload) == 0xFFF) ≡ sync → BreaksAt payload stop sync
    broken sync is = record { places = places; before = record { first = first; begun = begun; frames = frames }; long = stops.long; other = stops.other; sync = is }

    by_sync : (sync : Bool) → (syncword (drop stop payload) == 0xFFF) ≡ sync → IsPlaceRefused payload (cond sync (NotLayer2 stop) (AudioSync stop))
    by_sync true is = inr (broken true is)
    by_sync false is = broken false is

pub stage_ends : (payload places : List ℕ) (at : ℕ) (format : FrameHeader) → IsSettled payload places at (Frames format) → IsEnded payload places format
stage_ends payload places at format settled =
    ended_by payload places settled.0.first at format (first_now payload settled.0.first settled.0.begun) settled.0.format_is settled.0.frames settled.1

pub stage_refused : (payload places : List ℕ) (at : ℕ) (fault : AudioFault) → BreaksOff payload places fault → IsPlaceRefused payload fault
stage_refused payload places at fault off = refused_by payload places off.first off.stop fault (first_now payload off.first off.begun) off.frames off.stops

-- ---- and none was found

now_behind : (payload kept : List ℕ) (at k : ℕ) → IsRestOf payload at kept → is_first payload (at + k) ≡ is_first kept k
now_behind payload kept at k rest =
    sym (ap (λ (p : List ℕ). is_first p (at + k)) (append-nil payload)) ∙ first_behind payload kept [] at k rest ∙ ap (λ (b : List ℕ). is_first b k) (append-nil kept)

-- which places of the payload begin no first frame
none_now : (payload kept : List ℕ) (at s : ℕ) → NoneBefore payload at → IsRestOf payload at kept → ((k : ℕ) → k < s → is_first kept k ≡ false) → (k : ℕ) → k < at + s → is_first payload k ≡ false
none_now payload kept at s none rest passed k lt = elim (cases_lt k at) [
  | inl before ↦ sym (ap (λ (p : List ℕ). is_first p k) (append-nil payload)) ∙ none k before []
  | inr here ↦ (let sum : at + (k - at) ≡ k = omega (arith, here) in
      subst (λ (n : ℕ). is_first payload n ≡ false) sum (now_behind payload kept at (k - at) rest ∙ passed (k - at) (omega (arith, lt, here))))
]

pub rest_size : (payload kept : List ℕ) (at : ℕ) → IsRestOf payload at kept → length payload ≡ at + length kept
rest_size payload kept at rest = omega (arith, rest.0, length-drop at payload, ap length rest.1)

pub none_found : (payload kept : List ℕ) (at : ℕ) → NoneBefore payload at → IsRestOf payload at kept → first_frame kept ≡ None → first_frame payload ≡ None
none_found payload kept at none rest is =
    find_none (is_first payload) (length payload) 0
    (λ k low high. none_now payload kept at (length kept) none rest (λ j lt. none_passes (is_first kept) (length kept) 0 is j (omega arith) (omega (arith, lt))) k
    (omega (arith, high, rest_size payload kept at rest)))

pub some_found : (payload kept : List ℕ) (at s : ℕ) → NoneBefore payload at → IsRestOf payload at kept → first_frame kept ≡ Some s → first_frame payload ≡ Some (at + s)
some_found payload kept at s none rest is =
    let found : (is_first kept s ≡ true) × (s < 0 + length kept) = found_passes (is_first kept) (length kept) 0 s is in
    find_range (is_first payload) (length payload) 0 (at + s) (omega arith) (omega (arith, found.1, rest_size payload kept at rest))
    (now_behind payload kept at s rest ∙ found.0)
    (λ k low high. none_now payload kept at s none rest (λ j lt. found_least (is_first kept) (length kept) 0 s is j (omega arith) lt) k high)

module _ (format : FrameHeader) (kept part : List ℕ) (s at : ℕ) (old new : List ℕ) (found : first_frame kept ≡ Some s) (header : header_of (drop s kept) ≡ Some format)
    (within : s ≤ length kept) (is : drop s kept ≡ part) where
  part_of : (payload : List ℕ) → IsRestOf payload at kept → IsRestOf payload (at + s) part
  part_of payload rest = subst (IsRestOf payload (at + s)) is (rest_behind payload kept at s rest within)

  format_at : (payload : List ℕ) → IsRestOf payload at kept → IsFormatAt payload (at + s) format
  format_at payload rest = ap header_of ((part_of payload rest).1 ∙ sym is) ∙ header

  pub search_ends : (done : ℕ) → Follows format part (at + s) old new (record { done = done; broken = None }) → (payload : List ℕ) → old ≡ [] → NoneBefore payload at
      → IsRestOf payload at kept → IsEnded payload new format
  search_ends done goes payload empty none rest =
      let all : new ≡ goes.up_to.more = goes.up_to.added ∙ ap (λ (xs : List ℕ). xs ++ goes.up_to.more) empty in
      subst (λ (xs : List ℕ). IsEnded payload xs format) (sym all)
      (ended_by payload goes.up_to.more (at + s) (at + s + done) format (some_found payload kept at s none rest found) (format_at payload rest)
      (goes.up_to.frames payload (at + s) (format_at payload rest) (part_of payload rest)) (goes.stops payload (at + s) (format_at payload rest) (part_of payload rest)))

  pub search_refused : (done : ℕ) (fault : AudioFault) → Follows format part (at + s) old new (record { done = done; broken = Some fault }) → (payload : List ℕ)
      → NoneBefore payload at → IsRestOf payload at kept → IsPlaceRefused payload fault
  search_refused done fault goes payload none rest =
      refused_by payload goes.up_to.more (at + s) (at + s + done) fault (some_found payload kept at s none rest found)
      (goes.up_to.frames payload (at + s) (format_at payload rest) (part_of payload rest)) (goes.stops payload (at + s) (format_at payload rest) (part_of payload rest))

  pub search_resting : (followed : Followed) → followed.broken ≡ None → Follows format part (at + s) old new followed → (payload : List ℕ) → old ≡ [] → NoneBefore payload at
      → IsRestOf payload at kept → IsEnded payload new format
  search_resting followed none goes =
      let same : followed ≡ record { done = followed.done; broken = None } = ap (λ (b : Option AudioFault). record { done = followed.done; broken = b }) none in
      search_ends followed.done (subst (Follows format part (at + s) old new) same goes)

  pub search_breaking : (followed : Followed) (fault : AudioFault) → followed.broken ≡ Some fault → Follows format part (at + s) old new followed → (payload : List ℕ)
      → NoneBefore payload at → IsRestOf payload at kept → IsPlaceRefused payload fault
  search_breaking followed fault broken goes =
      let same : followed ≡ record { done = followed.done; broken = Some fault } = ap (λ (b : Option AudioFault). record { done = followed.done; broken = b }) broken in
      search_refused followed.done fault (subst (Follows format part (at + s) old new) same goes)

  pub search_apart : (followed : Followed) → Follows format part (at + s) old new followed → AreApart old at → AreApart new (at + length kept)
  search_apart followed goes apart =
      apart_later new (at + s + followed.done) (at + length kept) (omega (arith, within, goes.up_to.within, length-drop s kept, ap length is))
      (goes.up_to.apart (apart_later old at (at + s) (omega arith) apart))

-- ---- times

pub timed_for : (payload places : List ℕ) (format : FrameHeader) (size rate : ℕ) → length payload ≡ size → IsEnded payload places format
    → (format.sampling_index < 3 → rate ≡ slice_index (hertz format.id) format.sampling_index) → IsTimedFor payload places size rate
timed_for payload places format size rate long ended value = record {
  long = long;
  all = ended.all;
  rate_is = kept_rate (drop (slice_index places 0) payload) format rate ended.format_is (value (index_small (drop (slice_index places 0) payload) format ended.format_is));
}

-- why a payload isn't frames, and why frames are refused for their times
pub place_refused : (payload : List ℕ) (starts : List PesStart) (fault : AudioFault) → IsPlaceRefused payload fault → IsAudioRefused payload starts fault
place_refused payload starts (NotLayer2 at) is = is
place_refused payload starts (AudioSync at) is = is
place_refused payload starts (NoAudioTime at) is = absurd is
place_refused payload starts (TimeOrder at) is = absurd is
place_refused payload starts OutOfMemory is = is

pub time_refused : (payload : List ℕ) (starts : List PesStart) (fault : AudioFault) → IsTimeRefused payload starts fault → IsAudioRefused payload starts fault
time_refused payload starts (NotLayer2 at) is = absurd is
time_refused payload starts (AudioSync at) is = absurd is
time_refused payload starts (NoAudioTime at) is = is
time_refused payload starts (TimeOrder at) is = is
time_refused payload starts OutOfMemory is = is

pub on_error : {T E : Type 0} (r : Result T E) (P Q : E → Type 0) → ((e : E) → P e → Q e) → IfErr r P → IfErr r Q
on_error (Ok x) P Q each holds = tt
on_error (Err e) P Q each holds = each e holds
