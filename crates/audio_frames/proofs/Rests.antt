-- What is said of a place of a payload, said of the bytes from that place on.
use Rattle.std.proofs.Common.{◌≡◌, ℕ, ◌+◌, ◌≤◌, nat_le, Bool, true, false, ◌&&◌, ◌||◌, List, ◌++◌, length, drop, sym, ap, ◌∙◌, subst, arith, length-append, length-drop, inl, inr}
use Rattle.std.proofs.lemmas.List.{drop-drop, drop-append-le}
use Rattle.std.proofs.lemmas.Bool.{cases_lt, lt-ltb, le-ltb, lt-leb, le-leb}
use Rattle.audio_frames.specs.FrameHeader.{frame_length, is_header, is_same_format}
use Rattle.audio_frames.specs.Frames.{end_of, is_near_end, is_first}
use Rattle.audio_frames.specs.Walk.{NeverFirst}
use Rattle.audio_frames.specs.Private.Ahead.{IsRestOf}
use Rattle.audio_frames.specs.Private.Sought.{AlwaysFirst}

pub near_rest : (payload : List ℕ) (at n : ℕ) → at ≤ length payload → is_near_end payload (at + n) ≡ is_near_end (drop at payload) n
near_rest payload at n within =
    let size : length (drop at payload) + at ≡ length payload = omega (arith, within, length-drop at payload) in
    elim (cases_lt (length payload) (at + n + 4)) [
      | inl near ↦ lt-ltb (length payload) (at + n + 4) near ∙ sym (lt-ltb (length (drop at payload)) (n + 4) (omega (arith, size, near)))
      | inr far ↦ le-ltb (length payload) (at + n + 4) far ∙ sym (le-ltb (length (drop at payload)) (n + 4) (omega (arith, size, far)))
    ]

pub whole_rest : (payload : List ℕ) (at n : ℕ) → at ≤ length payload → nat_le (at + n) (length payload) ≡ nat_le n (length (drop at payload))
whole_rest payload at n within =
    let size : length (drop at payload) + at ≡ length payload = omega (arith, within, length-drop at payload) in
    elim (cases_lt (length payload) (at + n)) [
      | inl past ↦ lt-leb (at + n) (length payload) past ∙ sym (lt-leb n (length (drop at payload)) (omega (arith, size, past)))
      | inr whole ↦ le-leb (at + n) (length payload) whole ∙ sym (le-leb n (length (drop at payload)) (omega (arith, size, whole)))
    ]

-- the bytes from a place of the rest on
pub rest_at : (payload bytes : List ℕ) (at n : ℕ) → drop at payload ≡ bytes → drop (at + n) payload ≡ drop n bytes
rest_at payload bytes at n is = sym (drop-drop n at payload) ∙ ap (drop n) is

-- where a frame ends
pub end_rest : (payload : List ℕ) (at k : ℕ) → end_of payload (at + k) ≡ at + end_of (drop at payload) k
end_rest payload at k = omega (arith, ap frame_length (sym (drop-drop k at payload)))

abbrev first_of : List ℕ → List ℕ → Bool → Bool → Bool
first_of here behind whole near = is_header here && ((is_header behind && is_same_format here behind) || (whole && near))

pub first_rest : (payload : List ℕ) (at k : ℕ) → at ≤ length payload → is_first payload (at + k) ≡ is_first (drop at payload) k
first_rest payload at k within = λ i. first_of (here i) (behind i) (whole i) (near i)
  where
    here : drop (at + k) payload ≡ drop k (drop at payload)
    here = sym (drop-drop k at payload)

    end : end_of payload (at + k) ≡ at + end_of (drop at payload) k
    end = end_rest payload at k

    behind : drop (end_of payload (at + k)) payload ≡ drop (end_of (drop at payload) k) (drop at payload)
    behind = ap (λ (n : ℕ). drop n payload) end ∙ sym (drop-drop (end_of (drop at payload) k) at payload)

    whole : nat_le (end_of payload (at + k)) (length payload) ≡ nat_le (end_of (drop at payload) k) (length (drop at payload))
    whole = ap (λ (n : ℕ). nat_le n (length payload)) end ∙ whole_rest payload at (end_of (drop at payload) k) within

    near : is_near_end payload (end_of payload (at + k)) ≡ is_near_end (drop at payload) (end_of (drop at payload) k)
    near = ap (is_near_end payload) end ∙ near_rest payload at (end_of (drop at payload) k) within

-- a place of bytes that more follow, in the payload that these end
pub first_behind : (payload bytes more : List ℕ) (at k : ℕ) → IsRestOf payload at bytes → is_first (payload ++ more) (at + k) ≡ is_first (bytes ++ more) k
first_behind payload bytes more at k rest =
    first_rest (payload ++ more) at k (omega (arith, rest.0, length-append payload more))
    ∙ ap (λ (b : List ℕ). is_first b k) (drop-append-le at payload more rest.0 ∙ ap (λ (b : List ℕ). b ++ more) rest.1)

-- no first frame begins at the first of the bytes from a place on, so none does at that place
pub never_rest : (bytes part : List ℕ) (at : ℕ) → at ≤ length bytes → drop at bytes ≡ part → NeverFirst part 0 → NeverFirst bytes at
never_rest bytes part at within is never =
    let here : at + 0 ≡ at = omega arith in
    λ more. subst (λ (k : ℕ). is_first (bytes ++ more) k ≡ false) here (first_behind bytes part more at 0 (within, is) ∙ never more)

pub always_rest : (bytes part : List ℕ) (at : ℕ) → at ≤ length bytes → drop at bytes ≡ part → AlwaysFirst part 0 → AlwaysFirst bytes at
always_rest bytes part at within is always =
    let here : at + 0 ≡ at = omega arith in
    λ more. subst (λ (k : ℕ). is_first (bytes ++ more) k ≡ true) here (first_behind bytes part more at 0 (within, is) ∙ always more)
