-- What is kept of a header, against the header.
use Rattle.std.proofs.Common.{
  ◌≡◌,
  ℕ,
  ◌+◌,
  ◌-◌,
  ◌<◌,
  ◌≤◌,
  ◌==◌,
  nat_le,
  nat_lt,
  Bool,
  true,
  false,
  cond,
  ◌⊎◌,
  ◌&&◌,
  ◌||◌,
  List,
  length,
  drop,
  Option,
  Some,
  None,
  refl,
  sym,
  ap,
  ◌∙◌,
  arith,
  take,
  length-drop,
  inl,
  inr,
}
use Rattle.std.specs.Prelude.{slice_index}
use Rattle.std.proofs.lemmas.List.{take_all}
use Rattle.std.proofs.lemmas.Bool.{and_parts, and_from, and_left, and_right, leb-true, lt-leb, le-leb, leb-false, le-ltb, both_ways, or_from, lt-ltb, eq-eqb}
use Rattle.audio_frames.specs.declared.frame_header.FrameHeader.{FrameHeader}
use Rattle.audio_frames.specs.FrameHeader.{id, sampling_index, frame_length, hertz, sampling_rate, is_header, is_same_format}
use Rattle.audio_frames.specs.Frames.{has_header, end_of, goes_on, is_near_end, is_rest, is_first, is_audio_frame}
use Rattle.audio_frames.specs.Format.{header_of}
use Rattle.audio_frames.specs.Private.Format.{has_format}

-- a header that was kept stands there
pub header_stands : (bytes : List ℕ) (header : FrameHeader) → header_of bytes ≡ Some header → is_header bytes ≡ true
header_stands bytes header = by_test (is_header bytes)
  where
    by_test : (test : Bool) → cond test (Some (record { id = id bytes; sampling_index = sampling_index bytes; len = frame_length bytes })) None ≡ Some header → test ≡ true
    by_test true is = refl
    by_test false is = absurd (cc)

-- and where none was kept none stands
pub no_header : (bytes : List ℕ) → header_of bytes ≡ None → is_header bytes ≡ false
no_header bytes = by_test (is_header bytes)
  where
    by_test : (test : Bool) → cond {A = Option FrameHeader} test (Some (record { id = id bytes; sampling_index = sampling_index bytes; len = frame_length bytes })) None ≡ None → test ≡ false
    by_test true is = absurd (cc)
    by_test false is = refl

pub kept_id : (bytes : List ℕ) (header : FrameHeader) → header_of bytes ≡ Some header → header.id ≡ id bytes
kept_id bytes header = by_test (is_header bytes)
  where
    by_test : (test : Bool) → cond test (Some (record { id = id bytes; sampling_index = sampling_index bytes; len = frame_length bytes })) None ≡ Some header → header.id ≡ id bytes
    by_test true is = cc
    by_test false is = absurd (cc)

pub kept_index : (bytes : List ℕ) (header : FrameHeader) → header_of bytes ≡ Some header → header.sampling_index ≡ sampling_index bytes
kept_index bytes header = by_test (is_header bytes)
  where
    by_test : (test : Bool) → cond test (Some (record { id = id bytes; sampling_index = sampling_index bytes; len = frame_length bytes })) None
        ≡ Some header → header.sampling_index ≡ sampling_index bytes
    by_test true is = cc
    by_test false is = absurd (cc)

-- its sampling index is one of the table
pub index_small : (bytes : List ℕ) (header : FrameHeader) → header_of bytes ≡ Some header → header.sampling_index < 3
index_small bytes header is =
    let small : sampling_index bytes ≤ 2 = leb-true (sampling_index bytes) 2 (and_parts _ (nat_le (sampling_index bytes) 2) (header_stands bytes header is)).1 in
    omega (arith, small, kept_index bytes header is)

-- a header is kept of bytes with one
pub is_kept : (bytes : List ℕ) → is_header bytes ≡ true → header_of bytes ≡ Some (record { id = id bytes; sampling_index = sampling_index bytes; len = frame_length bytes })
is_kept bytes is = rw is refl

-- the format that was kept is that of the first header
pub format_goes_on : (payload : List ℕ) (first at : ℕ) (header : FrameHeader) → header_of (drop first payload) ≡ Some header → has_format header (drop at payload) ≡ goes_on payload first at
format_goes_on payload first at header is = rw (kept_id (drop first payload) header is, kept_index (drop first payload) header is) refl

-- a header takes four bytes
pub header_long : (payload : List ℕ) (at : ℕ) → has_header payload at ≡ true → at + 4 ≤ length payload
header_long payload at is =
    let long : 4 ≤ length (drop at payload) = leb-true _ _ (and_parts _ _ (and_parts _ _ (and_parts _ _ (and_parts _ _ (and_parts _ _ is).0).0).0).0).0 in
    omega (arith, long, length-drop at payload)

both_same : (a b : ℕ) → ((a == a) && (b == b)) ≡ true
both_same a b = and_from _ _ (eq-eqb a a refl) (eq-eqb b b refl)

first_parts : (header next whole near : Bool) → (header && (next || (whole && near))) ≡ true → (header ≡ true) × ((next ≡ true) ⊎ (whole ≡ true))
first_parts true true whole near is = (refl, inl refl)
first_parts true false true near is = (refl, inr refl)
first_parts true false false near is = absurd (cc)
first_parts false next whole near is = absurd (cc)

-- a header of the format of the first one
pub goes_on_header : (payload : List ℕ) (first at : ℕ) → goes_on payload first at ≡ true → has_header payload at ≡ true
goes_on_header payload first at is = (and_parts (has_header payload at) (is_same_format (drop first payload) (drop at payload)) is).0

-- a first frame is a frame of its own format
pub first_is_frame : (payload : List ℕ) (at : ℕ) → is_first payload at ≡ true → is_audio_frame payload at at ≡ true
first_is_frame payload at is =
    let end = end_of payload at in
    let parts : (has_header payload at ≡ true) × ((goes_on payload at end ≡ true) ⊎ (nat_le end (length payload) ≡ true)) =
    first_parts (has_header payload at) (goes_on payload at end) (nat_le end (length payload)) (is_near_end payload end) is in
    let whole : nat_le end (length payload) ≡ true = elim (parts.1) [
      | inl next ↦ (let long : end + 4 ≤ length payload = header_long payload end (goes_on_header payload at end next) in le-leb _ _ (omega (arith, long)))
      | inr whole ↦ whole
    ] in
    let same : is_same_format (drop at payload) (drop at payload) ≡ true = both_same (id (drop at payload)) (sampling_index (drop at payload)) in
    and_from (goes_on payload at at) (nat_le end (length payload)) (and_from (has_header payload at) (is_same_format (drop at payload) (drop at payload)) parts.0 same) whole

-- where no frame is whole and nothing breaks off, there is a rest
pub rest_from : (near on : Bool) (end size : ℕ) → (near || on) ≡ true → (on && nat_le end size) ≡ false → (near || (on && nat_lt size end)) ≡ true
rest_from true on end size is cut = refl
rest_from false true end size is cut = lt-ltb size end (leb-false end size cut)
rest_from false false end size is cut = absurd (cc)

-- another format, or an end behind the payload's, is no frame
pub no_like_frame : (payload : List ℕ) (first at : ℕ) (header next : FrameHeader) → header_of (drop first payload) ≡ Some header
    → header_of (drop at payload) ≡ Some next → ((header.id == next.id) && (header.sampling_index == next.sampling_index)) ≡ false
    → is_audio_frame payload first at ≡ false
no_like_frame payload first at header next is stands other =
    let differ : is_same_format (drop first payload) (drop at payload) ≡ false =
    ap (λ (b : ℕ). (id (drop first payload) == b) && (sampling_index (drop first payload) == sampling_index (drop at payload))) (sym (kept_id (drop at payload) next stands))
    ∙ ap (λ (b : ℕ). (id (drop first payload) == next.id) && (sampling_index (drop first payload) == b)) (sym (kept_index (drop at payload) next stands))
    ∙ ap (λ (a : ℕ). (a == next.id) && (sampling_index (drop first payload) == next.sampling_index)) (sym (kept_id (drop first payload) header is))
    ∙ ap (λ (a : ℕ). (header.id == next.id) && (a == next.sampling_index)) (sym (kept_index (drop first payload) header is))
    ∙ other in
    and_left (goes_on payload first at) (nat_le (end_of payload at) (length payload)) (and_right (has_header payload at) (is_same_format (drop first payload) (drop at payload)) differ)

pub kept_length : (bytes : List ℕ) (header : FrameHeader) → header_of bytes ≡ Some header → header.len ≡ frame_length bytes
kept_length bytes header = by_test (is_header bytes)
  where
    by_test : (test : Bool) → cond test (Some (record { id = id bytes; sampling_index = sampling_index bytes; len = frame_length bytes })) None ≡ Some header → header.len ≡ frame_length bytes
    by_test true is = cc
    by_test false is = absurd (cc)

pub no_whole_frame : (payload : List ℕ) (first at : ℕ) (next : FrameHeader) → header_of (drop at payload) ≡ Some next → length payload < at + next.len → is_audio_frame payload first at ≡ false
no_whole_frame payload first at next stands past =
    let far : length payload < end_of payload at = omega (arith, past, kept_length (drop at payload) next stands) in
    and_right (goes_on payload first at) (nat_le (end_of payload at) (length payload)) (lt-leb (end_of payload at) (length payload) far)

pub frame_header : (payload : List ℕ) (first at : ℕ) → is_audio_frame payload first at ≡ true → has_header payload at ≡ true
frame_header payload first at is = goes_on_header payload first at (and_parts (goes_on payload first at) (nat_le (end_of payload at) (length payload)) is).0

-- the rest of a payload as a slice of it
pub rest_whole : (payload : List ℕ) (at : ℕ) → take (length payload - at) (drop at payload) ≡ drop at payload
rest_whole payload at = take_all (length payload - at) (drop at payload) (omega (arith, length-drop at payload))

-- where a frame stands no rest does
pub no_rest_at_frame : (payload : List ℕ) (first at : ℕ) → is_rest payload first at ≡ true → is_audio_frame payload first at ≡ true → ⊥
no_rest_at_frame payload first at rest frame =
    let parts : (goes_on payload first at ≡ true) × (nat_le (end_of payload at) (length payload) ≡ true) = and_parts (goes_on payload first at) (nat_le (end_of payload at) (length payload)) frame in
    let long : at + 4 ≤ length payload = header_long payload at (goes_on_header payload first at parts.0) in
    let far : is_near_end payload at ≡ false = le-ltb (length payload) (at + 4) long in
    let whole : nat_lt (length payload) (end_of payload at) ≡ false = le-ltb (length payload) (end_of payload at) (leb-true (end_of payload at) (length payload) parts.1) in
    both_ways (is_rest payload first at) (or_from (is_near_end payload at) (goes_on payload first at && nat_lt (length payload) (end_of payload at)) far
    (and_right (goes_on payload first at) (nat_lt (length payload) (end_of payload at)) whole)) rest

-- the sampling rate of the header that was kept is that of the bytes
pub kept_rate : (bytes : List ℕ) (header : FrameHeader) (rate : ℕ) → header_of bytes ≡ Some header → rate ≡ slice_index (hertz header.id) header.sampling_index → rate ≡ sampling_rate bytes
kept_rate bytes header rate is value =
    value ∙ ap (λ (i : ℕ). slice_index (hertz i) header.sampling_index) (kept_id bytes header is) ∙ ap (λ (i : ℕ). slice_index (hertz (id bytes)) i) (kept_index bytes header is)
