-- What is written as a video PES packet is read as one, and audio packets wherever they stand.
use Rattle.std.proofs.Common.{◌≡◌, ℕ, ◌+◌, ◌<◌, ◌==◌, ◌↔◌, nat_le, nat_lt, Bool, true, false, cond, ◌&&◌, ◌||◌, List, [], ◌∷◌, ◌++◌, length, drop, Option, Some, None, refl, sym, ap, ◌∙◌, subst, arith}
use Rattle.std.specs.Prelude.{IsSome, is_some}
use Rattle.std.specs.List.{find}
use Rattle.std.proofs.lemmas.Bool.{or_right, and_from, and_left, and_right, eqb-true, le-leb, lt-leb, le-ltb}
use Rattle.std.proofs.lemmas.List.{drop_at, take_at}
use Rattle.bit_lists.specs.Fields.{bit, bits}
use Rattle.pes_units.specs.declared.pes_fault.PesFault.{PesFault}
use Rattle.pes_units.specs.declared.pes_fault.PesFault.TheVariants.{BadPrefix, Short, Scrambled, BadMarker, BadLength}
use Rattle.pes_units.specs.declared.pes_header.PesHeader.{PesHeader}
use Rattle.pes_units.specs.declared.times.Times.{Times}
use Rattle.pes_units.specs.PesHeader.{IsPesHeader, pes_fields_of, has_pes_fault, has_prefix, header_length, is_header_whole, pes_packet_length, pes_refusal}
use Rattle.pes_units.specs.PesPackets.{is_cut, is_dropped, is_length_sound, last_refusal, packet_refusal}
use Rattle.pes_units.specs.Times.{HasTimes, IsTimeAt, are_times_sound, decoding_of, decoding_time, has_markers, times_of}
use Rattle.pes_units.specs.VideoHeader.{AreInRange, IsBesidePts, written_dts, written_fields, written_pes_header}
use Rattle.pes_units.proofs.Refusals.{passes-header}
use Rattle.pes_units.proofs.RoundTrip.{written-read}
use Rattle.layer_laws.specs.VideoPackets.{IsReadAsVideo}

-- ---- times that a header has

marked : (bytes : List ℕ) (place time : ℕ) → IsTimeAt time bytes place → has_markers bytes place ≡ true
marked bytes place time is = rw (is.first_marker, is.second_marker, is.third_marker) refl

sound-times : (pts dts : Option ℕ) (bytes : List ℕ) → HasTimes pts dts bytes → are_times_sound bytes ≡ true
sound-times None None bytes has = rw has refl
sound-times None (Some dts) bytes has = absurd has
sound-times (Some pts) None bytes has = rw (has.0, le-leb 5 _ has.1, marked bytes 9 pts has.2) refl
sound-times (Some pts) (Some dts) bytes has = rw (has.0, le-leb 10 _ has.1, marked bytes 9 pts has.2, marked bytes 14 dts has.3) refl

times-read : (pts dts : Option ℕ) (bytes : List ℕ) → HasTimes pts dts bytes → times_of bytes ≡ record { pts = pts; dts = dts }
times-read None None bytes has = rw has refl
times-read None (Some dts) bytes has = absurd has
times-read (Some pts) None bytes has = rw (has.0, has.2.value) refl
times-read (Some pts) (Some dts) bytes has = rw (has.0, has.2.value, has.3.value) refl

-- ---- bytes that begin with a header

module _ (header : PesHeader) (bytes : List ℕ) (is : IsPesHeader true header bytes) where
  whole : is_header_whole bytes ≡ true
  whole = and_from _ _ (le-leb 9 (length bytes) (omega (arith, is.followed, is.len))) (le-leb (header_length bytes) (length bytes) (omega (arith, is.followed, is.len)))

  long : has_pes_fault true bytes Short ≡ false
  long = lt-leb (length bytes) (header_length bytes) (omega (arith, is.followed, is.len))

  clear : has_pes_fault true bytes Scrambled ≡ false
  clear = rw is.scrambling refl

  marks : has_pes_fault true bytes BadMarker ≡ false
  marks = rw (is.fixed, sound-times header.times.pts header.times.dts bytes is.times) refl

  fields-are : pes_fields_of bytes ≡ header
  fields-are =
      rw (sym is.stream_id, sym is.stated, sym is.len, times-read header.times.pts header.times.dts bytes is.times) refl

  none-found : has_prefix true bytes ≡ true → pes_refusal true bytes ≡ None
  none-found prefix = rw (prefix, long, clear, marks) refl

  none-found-last : has_prefix true bytes ≡ true → find (has_pes_fault true bytes) (BadPrefix ∷ Scrambled ∷ BadMarker ∷ []) ≡ None
  none-found-last prefix = rw (prefix, clear, marks) refl

-- ---- a video packet

cut_any : (a c : Bool) → (a || true || c) ≡ true
cut_any true c = refl
cut_any false c = refl

never_stated : (bytes : List ℕ) → pes_packet_length bytes ≡ 0 → is_cut true bytes ≡ true
never_stated bytes none = rw none (cut_any (nat_lt (length bytes) 6) (nat_lt (length bytes) 6))

packet-sound : (bytes : List ℕ) → pes_refusal true bytes ≡ None → pes_packet_length bytes ≡ 0 → packet_refusal true bytes ≡ None
packet-sound bytes none unstated = rw (none, unstated) refl

last-sound : (bytes : List ℕ) → is_cut true bytes ≡ true → is_header_whole bytes ≡ true → find (has_pes_fault true bytes) (BadPrefix ∷ Scrambled ∷ BadMarker ∷ []) ≡ None → last_refusal true bytes ≡ None
last-sound bytes cut whole none = rw (cut, whole) none

kept-whole : (bytes : List ℕ) → is_header_whole bytes ≡ true → is_dropped true bytes ≡ false
kept-whole bytes whole = rw whole (and_right (is_cut true bytes) false refl)

-- the decoding time isn't changed where a DTS that is the PTS isn't repeated
decoded-same : (pts dts : Option ℕ) → (IsSome dts → IsSome pts) → decoding_of (written_dts pts dts) pts ≡ decoding_of dts pts
decoded-same None None beside = refl
decoded-same None (Some dts) beside = absurd (let no : IsSome {T = ℕ} None = beside refl in cc)
decoded-same (Some pts) None beside = refl
decoded-same (Some pts) (Some dts) beside = by_test (dts == pts) refl
  where
    by_test : (same : Bool) → (dts == pts) ≡ same → decoding_of (cond same None (Some dts)) (Some pts) ≡ Some dts
    by_test true same = ap (λ (time : ℕ). Some time) (sym (eqb-true dts pts same))
    by_test false other = refl

pub video-read : (times : Times) (payload : List ℕ) → AreInRange times → IsBesidePts times → 0 < length payload → IsReadAsVideo times payload (written_pes_header times ++ payload)
unfolding bit bits
video-read times payload in_range beside some =
    let header : List ℕ = written_pes_header times in
    let bytes : List ℕ = header ++ payload in
    let is : IsPesHeader true (written_fields times) bytes =
    subst (λ (front : List ℕ). IsPesHeader true (written_fields times) (front ++ payload)) (take_at header (drop (length header) []) (length header) refl)
    (written-read times in_range beside (length header) [] (header ++ drop (length header) []) refl refl payload some) in
    let prefix : has_prefix true bytes ≡ true = or_right (nat_le (length bytes) 3) true refl in
    let fields : pes_fields_of bytes ≡ written_fields times = fields-are (written_fields times) bytes is in
    let unstated : pes_packet_length bytes ≡ 0 = sym is.stated in
    record {
      sound = packet-sound bytes (none-found (written_fields times) bytes is prefix) unstated;
      sound_last = last-sound bytes (never_stated bytes unstated) (whole (written_fields times) bytes is) (none-found-last (written_fields times) bytes is prefix);
      kept = kept-whole bytes (whole (written_fields times) bytes is);
      header = fields;
      presented = ap (λ (header : PesHeader). header.times.pts) fields;
      decoded = ap (λ (header : PesHeader). decoding_time header.times) fields ∙ decoded-same times.pts times.dts beside;
      payload_is = drop_at header payload (header_length bytes) is.len;
    }

-- ---- an audio packet

-- what nothing refuses among others has no fault, and the length that it states
sound-parts : (fault : Option PesFault) (same : Bool) → cond (is_some fault) fault (cond same None (Some BadLength)) ≡ None → (fault ≡ None) × (same ≡ true)
sound-parts None true none = (refl, refl)
sound-parts None false none = absurd cc
sound-parts (Some fault) same none = absurd cc

as_stated : (unstated same : Bool) → cond unstated false same ≡ true → same ≡ true
as_stated true same is = absurd cc
as_stated false same is = is

not_cut : (bytes : List ℕ) → packet_refusal false bytes ≡ None → is_cut false bytes ≡ false
not_cut bytes none =
    let parts = sound-parts (pes_refusal false bytes) (is_length_sound false bytes) none in
    let header = passes-header false bytes parts.0 in
    let size : length bytes ≡ 6 + pes_packet_length bytes = eqb-true _ _ (as_stated (pes_packet_length bytes == 0) (length bytes == 6 + pes_packet_length bytes) parts.1) in
    rw (le-ltb (length bytes) 6 (omega (arith, header.followed, header.len)), le-ltb (length bytes) (6 + pes_packet_length bytes) (omega (arith, size))) refl

and_true : (a : Bool) → (a && true) ≡ false → a ≡ false
and_true true is = absurd cc
and_true false is = refl

last-same : (bytes : List ℕ) → is_cut false bytes ≡ false → last_refusal false bytes ≡ packet_refusal false bytes
last-same bytes not_cut = rw not_cut refl

pub audio-either : (bytes : List ℕ) → (packet_refusal false bytes ≡ None) ↔ ((last_refusal false bytes ≡ None) × (is_dropped false bytes ≡ false))
audio-either bytes = (forward, backward)
  where
    forward : packet_refusal false bytes ≡ None → (last_refusal false bytes ≡ None) × (is_dropped false bytes ≡ false)
    forward none = (last-same bytes (not_cut bytes none) ∙ none, and_left (is_cut false bytes) true (not_cut bytes none))

    backward : (last_refusal false bytes ≡ None) × (is_dropped false bytes ≡ false) → packet_refusal false bytes ≡ None
    backward is = sym (last-same bytes (and_true (is_cut false bytes) is.1)) ∙ is.0
