-- A walk over the elements of a program stream, one element further.
use Rattle.std.proofs.Common.{◌≡◌, ℕ, ◌<◌, ◌≤◌, ◌==◌, Bool, true, false, not, cond, ◌&&◌, ◌||◌, List, [], ◌∷◌, ◌++◌, length, get_or, Option, Some, None, Result, Ok, Err, OnOk, refl, sym, ap, ◌∙◌, subst, arith}
use Rattle.std.proofs.lemmas.Bool.{or_parts}
use Rattle.std.proofs.lemmas.Bool.Decides.{nat_tests}
use Rattle.std.proofs.lemmas.List.{append-nil, length-map}
use Rattle.std.proofs.lemmas.List.Folds.{find-append}
use Rattle.std.proofs.lemmas.Option.{same_Some}
use Rattle.std.specs.List.{filter, find}
use Rattle.std.specs.Option.{option_or, option_to_list}
use Rattle.pes_units.specs.PesHeader.{is_stream_id}
use Rattle.ts_demux.specs.declared.demuxed.AudioStream.{AudioStream}
use Rattle.ts_demux.specs.Streams.{is_among}
use Rattle.program_stream.specs.declared.stream_walk.StreamWalk.{StreamWalk}
use Rattle.program_stream.specs.Elements.{Element}
use Rattle.program_stream.specs.Streams.{packets_of, ids_of, first_coming, first_video_id, is_carried_audio, carried_audio_ids, may_be_stream, is_uncarried, is_other, other_stream_ids}
use Rattle.program_stream.specs.Private.Walks.{with_id, stream_ids, HaveTheirPackets, Holds, others_beside, is_first_video, HasWalked}
use Rattle.program_stream.proofs.Packets.{same_number, not_true, equal_test, packets_of-none, ids_of-more, first_coming-id, first_coming-none, first_coming-within, filter-more, filter-none, filter-within}
use Rattle.program_stream.proofs.Holding.{holds-other}

-- ---- ids of one kind, in order of first coming

first_more : (p : ℕ → Bool) (elements : List Element) (element : Element) → p element.id ≡ true →
    first_coming [] (filter p (ids_of (elements ++ element ∷ []))) ≡ with_id (first_coming [] (filter p (ids_of elements))) element.id
first_more p elements element passes =
    ap (λ (ids : List ℕ). first_coming [] (filter p ids)) (ids_of-more elements element) ∙ ap (first_coming []) (filter-more p (ids_of elements) element.id true passes)
    ∙ first_coming-id (filter p (ids_of elements)) element.id

first_same : (p : ℕ → Bool) (elements : List Element) (element : Element) → p element.id ≡ false →
    first_coming [] (filter p (ids_of (elements ++ element ∷ []))) ≡ first_coming [] (filter p (ids_of elements))
first_same p elements element fails =
    ap (λ (ids : List ℕ). first_coming [] (filter p ids)) (ids_of-more elements element) ∙ ap (first_coming []) (filter-more p (ids_of elements) element.id false fails)
    ∙ ap (first_coming []) (append-nil (filter p (ids_of elements)))

not_first : (p : ℕ → Bool) (ids : List ℕ) (x : ℕ) → p x ≡ false → is_among (first_coming [] (filter p ids)) x ≡ false
not_first p ids x fails = first_coming-within [] (filter p ids) x (filter-within p ids x fails)

-- no packets of an audio stream that hasn't come
pub new_audio : (drop : List ℕ) (elements : List Element) (id : ℕ) → is_carried_audio drop id ≡ true → is_among (carried_audio_ids drop elements) id ≡ false → packets_of elements id ≡ []
new_audio drop elements id is none =
    packets_of-none elements id (filter-none (is_carried_audio drop) (ids_of elements) id is (first_coming-none [] (filter (is_carried_audio drop) (ids_of elements)) id refl none))

-- ---- the kinds exclude each other

pub video_no_audio : (id : ℕ) → is_stream_id true id ≡ true → is_stream_id false id ≡ false
video_no_audio id is = grind (arith, nat_tests)

video_listed : (id : ℕ) → is_stream_id true id ≡ true → may_be_stream id ≡ true
video_listed id is = grind (arith, nat_tests)

video_not_carried : (drop : List ℕ) (id : ℕ) → is_stream_id true id ≡ true → is_carried_audio drop id ≡ false
video_not_carried drop id is = ap (λ (b : Bool). b && not (is_among drop id)) (video_no_audio id is)

pub audio_no_video : (drop : List ℕ) (id : ℕ) → is_carried_audio drop id ≡ true → is_stream_id true id ≡ false
audio_no_video drop id is = not_true (is_stream_id true id) (λ video. (let never : is_carried_audio drop id ≡ false = video_not_carried drop id video in absurd cc))

-- ---- the video

other_number : (p : ℕ → Bool) (x y : ℕ) → p y ≡ false → p x ≡ true → (y == x) ≡ false
other_number p x y fails passes = not_true (y == x) (λ same. (let one : y ≡ x = same_number y x same in let both : p x ≡ false = subst (λ (n : ℕ). p n ≡ false) one fails in absurd cc))

find_none : (p : ℕ → Bool) (ids : List ℕ) (x : ℕ) → find p ids ≡ None → p x ≡ true → is_among ids x ≡ false
find_none p [] x none passes = refl
find_none p (y ∷ ids) x none passes = by_test (λ there. find_none p ids x there passes) (p y) refl none
  where
    by_test : (find p ids ≡ None → is_among ids x ≡ false) → (is : Bool) → p y ≡ is → cond is (Some y) (find p ids) ≡ None → is_among (y ∷ ids) x ≡ false
    by_test others true is none = absurd cc
    by_test others false is none = ap (λ (b : Bool). b || is_among ids x) (other_number p x y is passes) ∙ others none

pub find_passes : (p : ℕ → Bool) (ids : List ℕ) (x : ℕ) → find p ids ≡ Some x → p x ≡ true
find_passes p [] x found = absurd cc
find_passes p (y ∷ ids) x found = by_test (λ there. find_passes p ids x there) (p y) refl found
  where
    by_test : (find p ids ≡ Some x → p x ≡ true) → (is : Bool) → p y ≡ is → cond is (Some y) (find p ids) ≡ Some x → p x ≡ true
    by_test others true is found = subst (λ (n : ℕ). p n ≡ true) (same_Some y x found) is
    by_test others false is found = others found

video_more : (elements : List Element) (element : Element) (is : Bool) → is_stream_id true element.id ≡ is →
    first_video_id (elements ++ element ∷ []) ≡ option_or (first_video_id elements) (cond is (Some element.id) None)
video_more elements element is test =
    ap (find (is_stream_id true)) (ids_of-more elements element) ∙ find-append (is_stream_id true) (ids_of elements) (element.id ∷ [])
    ∙ ap (λ (b : Bool). option_or (first_video_id elements) (cond b (Some element.id) None)) test

video_same : (elements : List Element) (element : Element) → is_stream_id true element.id ≡ false → first_video_id (elements ++ element ∷ []) ≡ first_video_id elements
video_same elements element test = video_more elements element false test ∙ either (first_video_id elements)
  where
    either : (video : Option ℕ) → option_or video None ≡ video
    either None = refl
    either (Some v) = refl

not_this : (id v : ℕ) → is_stream_id true id ≡ false → is_stream_id true v ≡ true → (v == id) ≡ false
not_this id v fails passes = not_true (v == id) (λ same. (let one : v ≡ id = same_number v id same in let both : is_stream_id true id ≡ true = subst (λ (n : ℕ). is_stream_id true n ≡ true) one passes in absurd cc))

not_that : (id v : ℕ) → is_stream_id true id ≡ false → is_stream_id true v ≡ true → (id == v) ≡ false
not_that id v fails passes = other_number (is_stream_id true) v id fails passes

-- the video isn't an id of another kind
not_video : (elements : List Element) (id : ℕ) → is_stream_id true id ≡ false → is_among (option_to_list (first_video_id elements)) id ≡ false
not_video elements id not_video_id = either (first_video_id elements) refl
  where
    either : (video : Option ℕ) → first_video_id elements ≡ video → is_among (option_to_list video) id ≡ false
    either None is = refl
    either (Some v) is = ap (λ (b : Bool). b || false) (not_this id v not_video_id (find_passes (is_stream_id true) (ids_of elements) v is))

-- no packets of the first video stream before it comes
pub new_video : (elements : List Element) (id : ℕ) → is_stream_id true id ≡ true → is_first_video (first_video_id elements) id ≡ true →
    is_among (option_to_list (first_video_id elements)) id ≡ false → packets_of elements id ≡ []
new_video elements id is_video_id = either (first_video_id elements) refl
  where
    either : (video : Option ℕ) → first_video_id elements ≡ video → is_first_video video id ≡ true → is_among (option_to_list video) id ≡ false → packets_of elements id ≡ []
    either None is first none = packets_of-none elements id (find_none (is_stream_id true) (ids_of elements) id is is_video_id)
    either (Some v) is first none = (let parts = or_parts (v == id) false none in absurd cc)

video_ids : (elements : List Element) (element : Element) → is_stream_id true element.id ≡ true → is_first_video (first_video_id elements) element.id ≡ true →
    with_id (option_to_list (first_video_id elements)) element.id ≡ option_to_list (first_video_id (elements ++ element ∷ []))
video_ids elements element is_video_id first = either (first_video_id elements) first ∙ ap option_to_list (sym (video_more elements element true is_video_id))
  where
    either : (video : Option ℕ) → is_first_video video element.id ≡ true → with_id (option_to_list video) element.id ≡ option_to_list (option_or video (Some element.id))
    either None first = refl
    either (Some v) first = ap (λ (b : Bool). cond (b || false) (v ∷ []) (v ∷ element.id ∷ [])) first

-- ---- the streams that aren't carried

uncarried_beside : (drop ids : List ℕ) (v : ℕ) → is_stream_id true v ≡ true → find (is_stream_id true) ids ≡ None → filter (is_uncarried drop) ids ≡ filter (is_other drop v) ids
uncarried_beside drop [] v is_video_id none = refl
uncarried_beside drop (x ∷ ids) v is_video_id none = by_test (λ there. uncarried_beside drop ids v is_video_id there) (is_stream_id true x) refl none
  where
    by_test : (find (is_stream_id true) ids ≡ None → filter (is_uncarried drop) ids ≡ filter (is_other drop v) ids) → (is : Bool) → is_stream_id true x ≡ is → cond is (Some x) (find (is_stream_id true) ids) ≡ None → filter (is_uncarried drop) (x ∷ ids) ≡ filter (is_other drop v) (x ∷ ids)
    by_test others true is none = absurd cc
    by_test others false is none =
        ap (λ (xs : List ℕ). cond (is_uncarried drop x) (x ∷ xs) xs) (others none)
        ∙ ap (λ (b : Bool). cond (not b && is_uncarried drop x) (x ∷ filter (is_other drop v) ids) (filter (is_other drop v) ids)) (sym (not_that x v is is_video_id))

others_first : (drop : List ℕ) (elements : List Element) (element : Element) → is_stream_id true element.id ≡ true → is_first_video (first_video_id elements) element.id ≡ true →
    others_beside drop (first_video_id elements) elements ≡ others_beside drop (first_video_id (elements ++ element ∷ [])) (elements ++ element ∷ [])
others_first drop elements element is_video_id first =
    either (first_video_id elements) refl first ∙ ap (λ (video : Option ℕ). others_beside drop video (elements ++ element ∷ [])) (sym (video_more elements element true is_video_id))
  where
    own : (is_other drop element.id) element.id ≡ false
    own = ap (λ (b : Bool). not b && is_uncarried drop element.id) (equal_test element.id)

    either : (video : Option ℕ) → first_video_id elements ≡ video → is_first_video video element.id ≡ true →
        others_beside drop video elements ≡ others_beside drop (option_or video (Some element.id)) (elements ++ element ∷ [])
    either None is first =
        ap (first_coming []) (uncarried_beside drop (ids_of elements) element.id is_video_id is) ∙ sym (first_same (is_other drop element.id) elements element own)
    either (Some v) is first =
        let same : element.id ≡ v = sym (same_number v element.id first) in
        subst (λ (n : ℕ). other_stream_ids drop n elements ≡ other_stream_ids drop n (elements ++ element ∷ [])) same (sym (first_same (is_other drop element.id) elements element own))

others_same : (drop : List ℕ) (elements : List Element) (element : Element) → first_video_id (elements ++ element ∷ []) ≡ first_video_id elements → is_uncarried drop element.id ≡ false →
    others_beside drop (first_video_id elements) elements ≡ others_beside drop (first_video_id (elements ++ element ∷ [])) (elements ++ element ∷ [])
others_same drop elements element same fails = either (first_video_id elements) ∙ ap (λ (video : Option ℕ). others_beside drop video (elements ++ element ∷ [])) (sym same)
  where
    either : (video : Option ℕ) → others_beside drop video elements ≡ others_beside drop video (elements ++ element ∷ [])
    either None = sym (first_same (is_uncarried drop) elements element fails)
    either (Some v) = sym (first_same (is_other drop v) elements element (and_no (not (element.id == v)) fails))
      where
        and_no : (b : Bool) {c : Bool} → c ≡ false → (b && c) ≡ false
        and_no true is = is
        and_no false is = refl

others_more : (drop : List ℕ) (elements : List Element) (element : Element) → first_video_id (elements ++ element ∷ []) ≡ first_video_id elements → is_uncarried drop element.id ≡ true →
    is_among (option_to_list (first_video_id elements)) element.id ≡ false →
    with_id (others_beside drop (first_video_id elements) elements) element.id ≡ others_beside drop (first_video_id (elements ++ element ∷ [])) (elements ++ element ∷ [])
others_more drop elements element same passes other = either (first_video_id elements) other ∙ ap (λ (video : Option ℕ). others_beside drop video (elements ++ element ∷ [])) (sym same)
  where
    either : (video : Option ℕ) → is_among (option_to_list video) element.id ≡ false → with_id (others_beside drop video elements) element.id ≡ others_beside drop video (elements ++ element ∷ [])
    either None none = sym (first_more (is_uncarried drop) elements element passes)
    either (Some v) none =
        let parts = or_parts (v == element.id) false none in
        sym (first_more (is_other drop v) elements element (ap (λ (b : Bool). not b && is_uncarried drop element.id) (apart (element.id == v) refl parts.0) ∙ passes))
      where
        apart : (b : Bool) → (element.id == v) ≡ b → (v == element.id) ≡ false → b ≡ false
        apart true is not_video_id = (let one : element.id ≡ v = same_number element.id v is in let both : (v == v) ≡ false = subst (λ (n : ℕ). (v == n) ≡ false) one not_video_id in let is_video_id : (v == v) ≡ true = equal_test v in absurd cc)
        apart false is not_video_id = refl

-- ---- one element

-- the first video stream, or its next packet
pub first_video : (drop : List ℕ) (elements : List Element) (element : Element) (walk after : StreamWalk) → is_stream_id true element.id ≡ true → is_first_video (first_video_id elements) element.id ≡ true →
    HasWalked drop elements walk → Holds (elements ++ element ∷ []) (with_id (option_to_list (first_video_id elements)) element.id) after.video →
    after.audios ≡ walk.audios → after.others ≡ walk.others → HasWalked drop (elements ++ element ∷ []) after
first_video drop elements element walk after is_video_id first walked video audios_are others_are = record {
  video = subst (λ (ids : List ℕ). Holds (elements ++ element ∷ []) ids after.video) (video_ids elements element is_video_id first) video;
  audios = subst (Holds (elements ++ element ∷ []) (carried_audio_ids drop (elements ++ element ∷ []))) (sym audios_are)
      (subst (λ (ids : List ℕ). Holds (elements ++ element ∷ []) ids walk.audios) (sym (first_same (is_carried_audio drop) elements element (video_not_carried drop element.id is_video_id)))
      (holds-other elements element (carried_audio_ids drop elements) walk.audios (not_first (is_carried_audio drop) (ids_of elements) element.id (video_not_carried drop element.id is_video_id)) walked.audios));
  others = others_are ∙ walked.others ∙ others_first drop elements element is_video_id first;
}

-- an element that brings nothing to what is carried
uncarried : (drop : List ℕ) (elements : List Element) (element : Element) (walk after : StreamWalk) → first_video_id (elements ++ element ∷ []) ≡ first_video_id elements →
    is_among (option_to_list (first_video_id elements)) element.id ≡ false → is_carried_audio drop element.id ≡ false →
    HasWalked drop elements walk → after.video ≡ walk.video → after.audios ≡ walk.audios →
    after.others ≡ others_beside drop (first_video_id (elements ++ element ∷ [])) (elements ++ element ∷ []) → HasWalked drop (elements ++ element ∷ []) after
uncarried drop elements element walk after same other not_audio walked video_is audios_are others_are = record {
  video = subst (Holds (elements ++ element ∷ []) (option_to_list (first_video_id (elements ++ element ∷ [])))) (sym video_is)
      (subst (λ (video : Option ℕ). Holds (elements ++ element ∷ []) (option_to_list video) walk.video) (sym same) (holds-other elements element (option_to_list (first_video_id elements)) walk.video other walked.video));
  audios = subst (Holds (elements ++ element ∷ []) (carried_audio_ids drop (elements ++ element ∷ []))) (sym audios_are)
      (subst (λ (ids : List ℕ). Holds (elements ++ element ∷ []) ids walk.audios) (sym (first_same (is_carried_audio drop) elements element not_audio))
      (holds-other elements element (carried_audio_ids drop elements) walk.audios (not_first (is_carried_audio drop) (ids_of elements) element.id not_audio) walked.audios));
  others = others_are;
}

-- another video stream
pub second_video : (drop : List ℕ) (elements : List Element) (element : Element) (walk after : StreamWalk) → is_stream_id true element.id ≡ true → is_first_video (first_video_id elements) element.id ≡ false →
    HasWalked drop elements walk → after.video ≡ walk.video → after.audios ≡ walk.audios → after.others ≡ with_id walk.others element.id → HasWalked drop (elements ++ element ∷ []) after
second_video drop elements element walk after is_video_id second walked video_is audios_are others_are =
    let parts = either (first_video_id elements) refl second in
    let not_audio = video_not_carried drop element.id is_video_id in
    let passes : is_uncarried drop element.id ≡ true = ap (λ (b : Bool). b && not (is_carried_audio drop element.id)) (video_listed element.id is_video_id) ∙ ap not not_audio in
    uncarried drop elements element walk after parts.0 parts.1 not_audio walked video_is audios_are
    (others_are ∙ ap (λ (ids : List ℕ). with_id ids element.id) walked.others ∙ others_more drop elements element parts.0 passes parts.1)
  where
    either : (video : Option ℕ) → first_video_id elements ≡ video → is_first_video video element.id ≡ false →
        (first_video_id (elements ++ element ∷ []) ≡ first_video_id elements) × (is_among (option_to_list (first_video_id elements)) element.id ≡ false)
    either None is second = absurd cc
    either (Some v) is second = (
      video_more elements element true is_video_id ∙ ap (λ (video : Option ℕ). option_or video (Some element.id)) is ∙ sym is,
      ap (λ (video : Option ℕ). is_among (option_to_list video) element.id) is ∙ ap (λ (b : Bool). b || false) second,
    )

-- an audio stream that is carried
pub carried_audio : (drop : List ℕ) (elements : List Element) (element : Element) (walk after : StreamWalk) → is_carried_audio drop element.id ≡ true →
    HasWalked drop elements walk → Holds (elements ++ element ∷ []) (with_id (carried_audio_ids drop elements) element.id) after.audios →
    after.video ≡ walk.video → after.others ≡ walk.others → HasWalked drop (elements ++ element ∷ []) after
carried_audio drop elements element walk after audio walked audios video_is others_are =
    let not_video_id = audio_no_video drop element.id audio in
    let same = video_same elements element not_video_id in
    record {
      video = subst (Holds (elements ++ element ∷ []) (option_to_list (first_video_id (elements ++ element ∷ [])))) (sym video_is)
          (subst (λ (video : Option ℕ). Holds (elements ++ element ∷ []) (option_to_list video) walk.video) (sym same)
          (holds-other elements element (option_to_list (first_video_id elements)) walk.video (not_video elements element.id not_video_id) walked.video));
      audios = subst (λ (ids : List ℕ). Holds (elements ++ element ∷ []) ids after.audios) (sym (first_more (is_carried_audio drop) elements element audio)) audios;
      others = others_are ∙ walked.others ∙ others_same drop elements element same (and_not (may_be_stream element.id) audio);
    }
  where
    and_not : (b : Bool) {c : Bool} → c ≡ true → (b && not c) ≡ false
    and_not true is = ap not is
    and_not false is = refl

-- a stream of another kind, or an audio stream that is dropped
pub listed : (drop : List ℕ) (elements : List Element) (element : Element) (walk after : StreamWalk) → is_stream_id true element.id ≡ false → is_carried_audio drop element.id ≡ false →
    may_be_stream element.id ≡ true → HasWalked drop elements walk → after.video ≡ walk.video → after.audios ≡ walk.audios → after.others ≡ with_id walk.others element.id →
    HasWalked drop (elements ++ element ∷ []) after
listed drop elements element walk after not_video_id not_audio may walked video_is audios_are others_are =
    let same = video_same elements element not_video_id in
    let other = not_video elements element.id not_video_id in
    let passes : is_uncarried drop element.id ≡ true = ap (λ (b : Bool). b && not (is_carried_audio drop element.id)) may ∙ ap not not_audio in
    uncarried drop elements element walk after same other not_audio walked video_is audios_are
    (others_are ∙ ap (λ (ids : List ℕ). with_id ids element.id) walked.others ∙ others_more drop elements element same passes other)

-- what is of no stream
pub ignored : (drop : List ℕ) (elements : List Element) (element : Element) (walk : StreamWalk) → is_stream_id true element.id ≡ false → is_carried_audio drop element.id ≡ false →
    may_be_stream element.id ≡ false → HasWalked drop elements walk → HasWalked drop (elements ++ element ∷ []) walk
ignored drop elements element walk not_video_id not_audio may walked =
    let same = video_same elements element not_video_id in
    uncarried drop elements element walk walk same (not_video elements element.id not_video_id) not_audio walked refl refl
    (walked.others ∙ others_same drop elements element same (ap (λ (b : Bool). b && not (is_carried_audio drop element.id)) may))

-- ---- at the end

-- the one stream of the video
pub one_video : (elements : List Element) (streams : List AudioStream) (stream : AudioStream) (video : Option ℕ) → stream_ids streams ≡ option_to_list video → HaveTheirPackets elements streams →
    0 < length streams → stream ≡ get_or streams 0 stream → (video ≡ Some stream.pid) × (stream.units ≡ packets_of elements stream.pid)
one_video elements [] stream video ids have some first = absurd (omega arith)
one_video elements (s ∷ streams) stream None ids have some first = absurd cc
one_video elements (s ∷ streams) stream (Some v) ids have some first =
    let id : s.pid ≡ v = cc in (
      ap Some (sym id ∙ ap (λ (x : AudioStream). x.pid) (sym first)),
      ap (λ (x : AudioStream). x.units) first ∙ ap (λ (x : AudioStream). x.units) have.0 ∙ ap (λ (x : AudioStream). packets_of elements x.pid) (sym first),
    )

pub others_there : (drop : List ℕ) (elements : List Element) (others : List ℕ) (video : ℕ) → others ≡ others_beside drop (first_video_id elements) elements → first_video_id elements ≡ Some video →
    others ≡ other_stream_ids drop video elements
others_there drop elements others video is found = is ∙ ap (λ (v : Option ℕ). others_beside drop v elements) found

pub few_audios : (streams : List AudioStream) (ids : List ℕ) (most : ℕ) → stream_ids streams ≡ ids → length streams ≤ most → length ids ≤ most
few_audios streams ids most is few = omega (arith, ap length is, length-map streams (λ (s : AudioStream). s.pid))

-- what two facts of an Ok give
pub on_both : {T E A B C : Type 0} (result : Result T E) → OnOk result A → OnOk result B → (A → B → C) → OnOk result C
on_both (Ok x) a b step = step a b
on_both (Err fault) a b step = tt
