-- Frames one behind the other, one more at the end.
use Rattle.std.proofs.Common.{◌≡◌, ℕ, ◌+◌, ◌<◌, ◌≤◌, true, List, [], ◌∷◌, ◌++◌, length, refl, sym, ap, ◌∙◌, subst, arith, length-append, inl, inr}
use Rattle.std.specs.Prelude.{slice_index}
use Rattle.std.proofs.Math.ListN.{get_or-append}
use Rattle.std.proofs.lemmas.List.{get_or-append-add}
use Rattle.std.proofs.lemmas.Bool.{cases_lt}
use Rattle.audio_frames.specs.Frames.{is_audio_frame, end_of, is_rest, is_first, has_header, AreFrames, AreAllFrames}
use Rattle.audio_frames.specs.Private.Places.{AreApart}
use Rattle.audio_frames.proofs.Formats.{no_rest_at_frame, first_is_frame, frame_header}
use Rattle.audio_frames.proofs.Places.{found_passes}

pub frames_more : (payload : List ℕ) (first from : ℕ) (places : List ℕ) (at : ℕ) → AreFrames payload first from places at
    → is_audio_frame payload first at ≡ true → AreFrames payload first from (places ++ at ∷ []) (end_of payload at)
frames_more payload first from [] at before here = (before, here, refl)
frames_more payload first from (place ∷ places) at before here = (before.0, before.1, frames_more payload first (end_of payload place) places at before.2 here)

-- the item that was added, and those before it
pub item_last : (xs : List ℕ) (x k : ℕ) → k ≡ length xs → slice_index (xs ++ x ∷ []) k ≡ x
item_last xs x k is =
    let sum : length xs + 0 ≡ k = omega arith in
    subst (λ (k : ℕ). slice_index (xs ++ x ∷ []) k ≡ x) sum (get_or-append-add xs (x ∷ []) 0 0)

pub item_before : (xs : List ℕ) (x k : ℕ) → k < length xs → slice_index (xs ++ x ∷ []) k ≡ slice_index xs k
item_before xs x k lt = get_or-append xs (x ∷ []) 0 k lt

pub apart_more : (places : List ℕ) (at end : ℕ) → AreApart places at → at + 4 ≤ end → AreApart (places ++ at ∷ []) end
apart_more places at end apart far =
    let count : length (places ++ at ∷ []) ≡ length places + 1 = length-append places (at ∷ []) in
    record {
      count = omega (arith, count, apart.count);
      rising = λ k lt. elim (cases_lt (k + 1) (length places)) [
        | inl before ↦ omega (arith, apart.rising k before, item_before places at k (omega arith), item_before places at (k + 1) before)
        | inr last ↦ omega (arith, apart.inside k (omega (arith, count)), item_before places at k (omega (arith, count)), item_last places at (k + 1) (omega (arith, count)))
      ];
      inside = λ k lt. elim (cases_lt k (length places)) [
        | inl before ↦ omega (arith, apart.inside k before, item_before places at k before)
        | inr last ↦ omega (arith, item_last places at k (omega (arith, count)))
      ];
    }

-- all frames of a payload: there is a first one, and its header stands
pub some_frame : (payload places : List ℕ) → AreAllFrames payload places → (0 < length places) × (has_header payload (slice_index places 0) ≡ true)
some_frame payload places all = by_places places all.all.frames
  where
    by_places : (places : List ℕ) → AreFrames payload all.all.first all.all.first places all.end → (0 < length places) × (has_header payload (slice_index places 0) ≡ true)
    by_places [] frames = absurd (no_rest_at_frame payload all.all.first all.all.first
        (subst (λ (end : ℕ). is_rest payload all.all.first end ≡ true) (sym frames) all.rest)
        (first_is_frame payload all.all.first (found_passes (is_first payload) (length payload) 0 all.all.first all.all.begun).0))
    by_places (place ∷ places) frames = (omega arith, frame_header payload all.all.first place frames.1)

-- frames behind frames
pub frames_join : (payload : List ℕ) (first from : ℕ) (places : List ℕ) (middle : ℕ) (others : List ℕ) (end : ℕ) → AreFrames payload first from places middle
    → AreFrames payload first middle others end → AreFrames payload first from (places ++ others) end
frames_join payload first from [] middle others end before behind = subst (λ (n : ℕ). AreFrames payload first n others end) (sym before) behind
frames_join payload first from (place ∷ places) middle others end before behind =
    (before.0, before.1, frames_join payload first (end_of payload place) places middle others end before.2 behind)

-- frames up to a place are the first of those up to a rest
pub frames_front : (payload : List ℕ) (first from : ℕ) (places all : List ℕ) (middle end : ℕ) → AreFrames payload first from places middle
    → AreFrames payload first from all end → is_rest payload first end ≡ true → (others : List ℕ) × (all ≡ places ++ others)
frames_front payload first from [] all middle end some are rest = (all, refl)
frames_front payload first from (place ∷ places) [] middle end some are rest =
    absurd (no_rest_at_frame payload first end rest (subst (λ (n : ℕ). is_audio_frame payload first n ≡ true) (sym some.0 ∙ are) some.1))
frames_front payload first from (place ∷ places) (next ∷ all) middle end some are rest =
    let same : place ≡ next = sym some.0 ∙ are.0 in
    let later : (others : List ℕ) × (all ≡ places ++ others) = frames_front payload first (end_of payload next) places all middle end
    (subst (λ (n : ℕ). AreFrames payload first (end_of payload n) places middle) same some.2) are.2 rest in
    (later.0, ap (λ (xs : List ℕ). next ∷ xs) later.1 ∙ ap (λ (n : ℕ). n ∷ (places ++ later.0)) (sym same))

-- places that are apart before a place are so before a later one
pub apart_later : (places : List ℕ) (at end : ℕ) → at ≤ end → AreApart places at → AreApart places end
apart_later places at end order apart = record {
  count = omega (arith, order, apart.count);
  rising = apart.rising;
  inside = λ k lt. omega (arith, order, apart.inside k lt);
}
