-- Whether the first frame of a payload has a low sampling rate, told by some of its bytes.
use Rattle.std.proofs.Common.{◌≡◌, ℕ, ◌+◌, ◌-◌, ◌<◌, ◌≤◌, ◌==◌, Bool, true, false, List, [], ◌∷◌, ◌++◌, length, drop, Option, Some, None, is_some, refl, sym, ap, ◌∙◌, subst, arith, append_assoc, length-append, length-drop, inl, inr}
use Rattle.std.proofs.lemmas.List.{append-nil, drop-append-le}
use Rattle.std.proofs.lemmas.Bool.{and_parts, cases_lt, eqb-false, eqb-true}
use Rattle.audio_frames.specs.declared.frame_header.FrameHeader.{FrameHeader}
use Rattle.audio_frames.specs.declared.frame_walk.FrameWalk.{FrameWalk}
use Rattle.audio_frames.specs.declared.place_steps.Stage.{Stage}
use Rattle.audio_frames.specs.declared.place_steps.Stage.TheVariants.{Search, Frames, Broken}
use Rattle.audio_frames.specs.Format.{header_of}
use Rattle.audio_frames.specs.FrameHeader.{id}
use Rattle.audio_frames.specs.Frames.{AreFrames, first_frame, goes_on, has_low_rate, is_first}
use Rattle.audio_frames.specs.Walk.{AlwaysBegun, IsSettled, IsWalked, NeverFirst, bytes_kept, places_of}
use Rattle.audio_frames.specs.Private.Ahead.{IsRestOf}
use Rattle.audio_frames.specs.Private.Steps.{NoneBefore}
use Rattle.audio_frames.proofs.Appended.{kept_more}
use Rattle.audio_frames.proofs.Certain.{none_found, some_found}
use Rattle.audio_frames.proofs.Formats.{first_is_frame, header_long, header_stands, kept_id}
use Rattle.audio_frames.proofs.Places.{found_least, found_passes}
use Rattle.audio_frames.proofs.Rests.{rest_at}
use Rattle.audio_walk.specs.AudioWalk.{IsRateOf}

-- ---- the first frame tells it

low_at : (payload : List ℕ) (first : ℕ) → first_frame payload ≡ Some first → has_low_rate payload ≡ (id (drop first payload) == 0)
low_at payload first is = rw is refl

low_none : (payload : List ℕ) → first_frame payload ≡ None → has_low_rate payload ≡ false
low_none payload is = rw is refl

-- bytes before which no first frame begins tell it too
pub low_rest : (payload kept : List ℕ) (from : ℕ) → NoneBefore payload from → IsRestOf payload from kept → has_low_rate kept ≡ has_low_rate payload
low_rest payload kept from none rest = by_first (first_frame kept) refl
  where
    by_first : (found : Option ℕ) → first_frame kept ≡ found → has_low_rate kept ≡ has_low_rate payload
    by_first None is = low_none kept is ∙ sym (low_none payload (none_found payload kept from none rest is))
    by_first (Some s) is =
        low_at kept s is
        ∙ sym (ap (λ (bytes : List ℕ). id bytes == 0) (rest_at payload kept from s rest.1))
        ∙ sym (low_at payload (from + s) (some_found payload kept from s none rest is))

-- the header of a first frame that is certain tells it whatever bytes follow
low_always : (payload : List ℕ) (first : ℕ) (format : FrameHeader) → AlwaysBegun payload first → header_of (drop first payload) ≡ Some format → (more : List ℕ)
    → has_low_rate (payload ++ more) ≡ (format.id == 0)
low_always payload first format begun is more =
    let long : first + 4 ≤ length payload = header_long payload first (header_stands (drop first payload) format is) in
    let header : header_of (drop first (payload ++ more)) ≡ Some format =
    ap header_of (drop-append-le first payload more (omega (arith, long))) ∙ kept_more (drop first payload) more (omega (arith, long, length-drop first payload)) ∙ is in
    low_at (payload ++ more) first (begun more) ∙ ap (λ (n : ℕ). n == 0) (sym (kept_id (drop first (payload ++ more)) format header))

low_stays : (payload : List ℕ) (first : ℕ) (format : FrameHeader) → AlwaysBegun payload first → header_of (drop first payload) ≡ Some format → (more : List ℕ)
    → has_low_rate (payload ++ more) ≡ has_low_rate payload
low_stays payload first format begun is more =
    low_always payload first format begun is more ∙ sym (low_always payload first format begun is []) ∙ ap has_low_rate (append-nil payload)

-- ---- a walk that has found a frame, or none

-- once it has the place of a frame, no bytes that follow change it
pub low_known : (payload places : List ℕ) (at : ℕ) (stage : Stage) → IsSettled payload places at stage → (places ≡ [] → ⊥) → (more : List ℕ) → has_low_rate (payload ++ more) ≡ has_low_rate payload
low_known payload places at Search settled some more = absurd (some settled.0)
low_known payload places at (Frames format) settled some more = low_stays payload settled.0.first format settled.0.begun settled.0.format_is more
low_known payload places at (Broken fault) off some more = low_stays payload off.first off.format off.begun off.format_is more

first_here : (payload : List ℕ) (first : ℕ) → AlwaysBegun payload first → is_first payload first ≡ true
first_here payload first begun =
    (found_passes (is_first payload) (length payload) 0 first (subst (λ (bytes : List ℕ). first_frame bytes ≡ Some first) (append-nil payload) (begun []))).0

-- and before that no first frame begins before the bytes that it keeps
pub never_known : (payload places : List ℕ) (at : ℕ) (stage : Stage) → IsSettled payload places at stage → places ≡ [] → (k : ℕ) → k < at → NeverFirst payload k
never_known payload places at Search settled none k lt = settled.1 k lt
never_known payload places at (Frames format) settled none k lt = λ more.
    (let here : settled.0.first ≡ at = subst (λ (xs : List ℕ). AreFrames payload settled.0.first settled.0.first xs at) none settled.0.frames in
    found_least (is_first (payload ++ more)) (length (payload ++ more)) 0 settled.0.first (settled.0.begun more) k (omega arith) (omega (arith, here, lt)))
never_known payload places at (Broken fault) off none k lt =
    let here : off.first ≡ off.stop = subst (λ (xs : List ℕ). AreFrames payload off.first off.first xs off.stop) none off.frames in
    let goes : goes_on payload off.first off.first ≡ true = (and_parts _ _ (first_is_frame payload off.first (first_here payload off.first off.begun))).0 in
    absurd (apart _ goes (subst (λ (n : ℕ). goes_on payload off.first n ≡ false) (sym here) off.stops.other))
  where
    apart : (test : Bool) → test ≡ true → test ≡ false → ⊥
    apart test is not = cc

-- ---- bytes that come next

pub rate_more : (payload piece kept later : List ℕ) (low : Bool) → IsRateOf payload kept (Some low) → IsRateOf (payload ++ piece) later (Some low)
rate_more payload piece kept later low is = λ more. ap has_low_rate (append_assoc payload piece more) ∙ is (piece ++ more)

-- the bytes that are kept, and those that come next, begin where the kept ones did
rest_more : (payload piece kept : List ℕ) (from : ℕ) → IsRestOf payload from kept → IsRestOf (payload ++ piece) from (kept ++ piece)
rest_more payload piece kept from rest =
    (omega (arith, rest.0, length-append payload piece), drop-append-le from payload piece rest.0 ∙ ap (λ (bytes : List ℕ). bytes ++ piece) rest.1)

none_more : (payload piece : List ℕ) (from : ℕ) → NoneBefore payload from → NoneBefore (payload ++ piece) from
none_more payload piece from none = λ k lt more. ap (λ (bytes : List ℕ). is_first bytes k) (append_assoc payload piece more) ∙ none k lt (piece ++ more)

-- all but so many of them may go that the walk behind them keeps
pub rate_kept : (payload piece kept : List ℕ) (at most : ℕ) → IsRateOf payload kept None → NoneBefore (payload ++ piece) at → length (payload ++ piece) ≤ at + most
    → IsRateOf (payload ++ piece) (drop (length (kept ++ piece) - most) (kept ++ piece)) None
rate_kept payload piece kept at most (from, within, is, none) never few =
    let cut = length (kept ++ piece) - most in
    let rest = rest_more payload piece kept from (within, is) in
    let size : length (kept ++ piece) + from ≡ length (payload ++ piece) = omega (arith, rest.0, ap length rest.1, length-drop from (payload ++ piece)) in (
      from + cut,
      omega (arith, size),
      rest_at (payload ++ piece) (kept ++ piece) from cut rest.1,
      λ k lt. elim (cases_lt k from) [
        | inl before ↦ none_more payload piece from none k before
        | inr behind ↦ never k (omega (arith, lt, behind, size, few))
      ],
    )

-- once the first frame is known, they tell its rate
pub rate_found : (payload piece kept later : List ℕ) (low : Bool) → IsRateOf payload kept None → ((more : List ℕ) → has_low_rate ((payload ++ piece) ++ more) ≡ has_low_rate (payload ++ piece))
    → low ≡ has_low_rate (kept ++ piece) → IsRateOf (payload ++ piece) later (Some low)
rate_found payload piece kept later low (from, within, is, none) known low_is = λ more.
    known more ∙ sym (low_rest (payload ++ piece) (kept ++ piece) from (none_more payload piece from none) (rest_more payload piece kept from (within, is))) ∙ sym low_is

-- ---- the same by what the calls say

none_left : (xs : List ℕ) → length xs ≡ 0 → xs ≡ []
none_left [] none = refl
none_left (x ∷ xs) none = absurd (omega (arith, none))

pub rate_still : (payload piece kept : List ℕ) (found : Option Bool) → is_some found ≡ true → IsRateOf payload kept found → IsRateOf (payload ++ piece) kept found
rate_still payload piece kept None some is = absurd cc
rate_still payload piece kept (Some low) some is = rate_more payload piece kept kept low is

pub rate_short : (payload piece kept later : List ℕ) (found : Option Bool) (walk : FrameWalk) (places : List ℕ) → is_some found ≡ false → IsRateOf payload kept found
    → IsWalked (payload ++ piece) walk → bytes_kept walk ≤ 3460 → places ≡ places_of walk → (length places == 0) ≡ true → later ≡ drop (length (kept ++ piece) - 3460) (kept ++ piece)
    → IsRateOf (payload ++ piece) later found
rate_short payload piece kept later None walk places sought is walked few places_are none later_is =
    let empty : places_of walk ≡ [] = sym places_are ∙ none_left places (eqb-true (length places) 0 none) in
    let size : length (payload ++ piece) ≤ walk.at + 3460 = omega (arith, few, walked.within, length-drop walk.at (payload ++ piece), ap length walked.kept) in
    subst (λ (bytes : List ℕ). IsRateOf (payload ++ piece) bytes None) (sym later_is)
    (rate_kept payload piece kept walk.at 3460 is (never_known (payload ++ piece) (places_of walk) walk.at walk.stage walked.settled empty) size)
rate_short payload piece kept later (Some low) walk places sought is walked few places_are none later_is = absurd cc

pub rate_here : (payload piece kept whole later : List ℕ) (found : Option Bool) (low : Bool) (walk : FrameWalk) (places : List ℕ) → is_some found ≡ false → IsRateOf payload kept found
    → IsWalked (payload ++ piece) walk → places ≡ places_of walk → (length places == 0) ≡ false → whole ≡ kept ++ piece → low ≡ has_low_rate whole
    → IsRateOf (payload ++ piece) later (Some low)
rate_here payload piece kept whole later None low walk places sought is walked places_are some whole_is low_is =
    rate_found payload piece kept later low is
    (low_known (payload ++ piece) (places_of walk) walk.at walk.stage walked.settled (λ none. eqb-false (length places) 0 some (ap length (places_are ∙ none))))
    (low_is ∙ ap has_low_rate whole_is)
rate_here payload piece kept whole later (Some known) low walk places sought is walked places_are some whole_is low_is = absurd cc

-- ---- what is answered

pub rate_known : (payload kept : List ℕ) (found : Option Bool) (low : Bool) → IsRateOf payload kept found → found ≡ Some low → low ≡ has_low_rate payload
rate_known payload kept None low is some = absurd cc
rate_known payload kept (Some known) low is some = same known low some ∙ sym (is []) ∙ ap has_low_rate (append-nil payload)
  where
    same : (known low : Bool) → Some known ≡ Some low → low ≡ known
    same known low some = cc

pub rate_sought : (payload kept : List ℕ) (found : Option Bool) → IsRateOf payload kept found → found ≡ None → has_low_rate kept ≡ has_low_rate payload
rate_sought payload kept None (from, within, is, never) none = low_rest payload kept from never (within, is)
rate_sought payload kept (Some known) is none = absurd cc
