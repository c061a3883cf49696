-- What the first bytes of a PES packet say is what it says, where they are as many as the longest one has that states its length, and one more.
use Rattle.std.proofs.Common.{◌≡◌, ℕ, zero, suc, ◌+◌, ◌*◌, ◌/◌, ◌<◌, ◌≤◌, ◌==◌, min, Bool, cond, not, List, length, take, get_or, Option, Some, None, refl, sym, ap, ◌∙◌, inl, inr, arith, nat_lt, nat_le}
use Rattle.std.proofs.lemmas.Bool.{cases_lt, lt-ltb, le-ltb, le-leb, lt-leb, eq-eqb, ne_eqb, cases_eq}
use Rattle.std.proofs.lemmas.List.{length-take, get_or-take, take-take}
use Rattle.bit_lists.specs.Fields.{bit, bits}
use Rattle.pes_units.specs.declared.pes_fault.PesFault.{PesFault}
use Rattle.pes_units.specs.declared.pes_fault.PesFault.TheVariants.{BadPrefix, Short, Scrambled, BadMarker, BadLength}
use Rattle.pes_units.specs.declared.pes_header.PesHeader.{PesHeader}
use Rattle.pes_units.specs.PesHeader.{has_prefix, stream_id, pes_packet_length, header_length, is_header_whole, pes_fields_of, has_pes_fault, pes_refusal, header_of}
use Rattle.pes_units.specs.PesPackets.{is_cut, is_length_sound, packet_refusal, last_refusal, is_dropped}
use Rattle.pes_units.specs.Times.{pts_dts_flags, pes_header_data_length, time_at, has_markers, are_times_sound}
use Rattle.pes_units.proofs.Elements.{pes_header_data_length-is, pes_packet_length-is}

-- the header of a last packet, where it isn't dropped
abbrev pub kept_header : Bool → List ℕ → Option PesHeader
kept_header video bytes = cond (is_dropped video bytes) None (Some (pes_fields_of bytes))

bits_same : (most : ℕ) (bytes : List ℕ) (first n : ℕ) → first + n ≤ 8 * most → bits (take most bytes) first n ≡ bits bytes first n
unfolding bits bit
bits_same most bytes first zero within = refl
bits_same most bytes first (suc n) within =
    let place : (first + n) / 8 < most = omega arith in
    let front : bits (take most bytes) first n ≡ bits bytes first n = bits_same most bytes first n (omega arith) in
    let last : get_or (take most bytes) ((first + n) / 8) 0 ≡ get_or bytes ((first + n) / 8) 0 = get_or-take most bytes ((first + n) / 8) 0 place in
    rw (front, last) refl

module _ (most : ℕ) (bytes : List ℕ) (many : 65542 ≤ most) where
  size : length (take most bytes) ≡ min most (length bytes)
  size = length-take most bytes

  le_small : (n : ℕ) → n < 65542 → nat_le n (length (take most bytes)) ≡ nat_le n (length bytes)
  le_small n few = elim (cases_lt (length bytes) n) [
    | inl less ↦ lt-leb n (length (take most bytes)) (omega (arith, size)) ∙ sym (lt-leb n (length bytes) less)
    | inr more ↦ le-leb n (length (take most bytes)) (omega (arith, size)) ∙ sym (le-leb n (length bytes) more)
  ]

  short_small : (n : ℕ) → n < 65542 → nat_le (length (take most bytes)) n ≡ nat_le (length bytes) n
  short_small n few = elim (cases_lt n (length bytes)) [
    | inl less ↦ lt-leb (length (take most bytes)) n (omega (arith, size)) ∙ sym (lt-leb (length bytes) n less)
    | inr more ↦ le-leb (length (take most bytes)) n (omega (arith, size)) ∙ sym (le-leb (length bytes) n more)
  ]

  lt_small : (n : ℕ) → n < 65542 → nat_lt (length (take most bytes)) n ≡ nat_lt (length bytes) n
  lt_small n few = elim (cases_lt (length bytes) n) [
    | inl less ↦ lt-ltb (length (take most bytes)) n (omega (arith, size)) ∙ sym (lt-ltb (length bytes) n less)
    | inr more ↦ le-ltb (length (take most bytes)) n (omega (arith, size)) ∙ sym (le-ltb (length bytes) n more)
  ]

  eq_small : (n : ℕ) → n < 65542 → (length (take most bytes) == n) ≡ (length bytes == n)
  eq_small n few = elim (cases_eq (length bytes) n) [
    | inl same ↦ eq-eqb (length (take most bytes)) n (omega (arith, size)) ∙ sym (eq-eqb (length bytes) n same)
    | inr apart ↦ ne_eqb (length (take most bytes)) n (λ e. apart (omega (arith, size))) ∙ sym (ne_eqb (length bytes) n apart)
  ]

  field : (first n : ℕ) → first + n ≤ 524336 → bits (take most bytes) first n ≡ bits bytes first n
  field first n within = bits_same most bytes first n (omega arith)

  -- ---- its elements

  data_length_same : pes_header_data_length (take most bytes) ≡ pes_header_data_length bytes
  data_length_same = field 64 8 (omega arith)

  pub length_same : header_length (take most bytes) ≡ header_length bytes
  length_same = ap (λ (n : ℕ). 9 + n) data_length_same

  stated_same : pes_packet_length (take most bytes) ≡ pes_packet_length bytes
  stated_same = field 32 16 (omega arith)

  id_same : stream_id (take most bytes) ≡ stream_id bytes
  id_same = field 24 8 (omega arith)

  flags_same : pts_dts_flags (take most bytes) ≡ pts_dts_flags bytes
  flags_same = field 56 2 (omega arith)

  time_same : (place : ℕ) → place < 20 → time_at (take most bytes) place ≡ time_at bytes place
  time_same place near = rw (field (8 * place + 4) 3 (omega arith), field (8 * place + 8) 15 (omega arith), field (8 * place + 24) 15 (omega arith)) refl

  markers_same : (place : ℕ) → place < 20 → has_markers (take most bytes) place ≡ has_markers bytes place
  markers_same place near = rw (field (8 * place + 7) 1 (omega arith), field (8 * place + 23) 1 (omega arith), field (8 * place + 39) 1 (omega arith)) refl

  header_few : header_length bytes < 65542
  header_few = omega (arith, pes_header_data_length-is bytes)

  stated_few : 6 + pes_packet_length bytes < 65542
  stated_few = omega (arith, pes_packet_length-is bytes)

  times_sound_same : are_times_sound (take most bytes) ≡ are_times_sound bytes
  times_sound_same = rw (flags_same, data_length_same, markers_same 9 (omega arith), markers_same 14 (omega arith)) refl

  whole_same : is_header_whole (take most bytes) ≡ is_header_whole bytes
  whole_same = rw (length_same, le_small 9 (omega arith), le_small (header_length bytes) header_few) refl

  prefix_same : (video : Bool) → has_prefix video (take most bytes) ≡ has_prefix video bytes
  prefix_same video = rw (take-take 3 most bytes (omega arith), short_small 3 (omega arith), id_same) refl

  fault_same : (video : Bool) (fault : PesFault) → has_pes_fault video (take most bytes) fault ≡ has_pes_fault video bytes fault
  fault_same video BadPrefix = ap not (prefix_same video)
  fault_same video Short = rw (length_same, short_small (header_length bytes) header_few) refl
  fault_same video Scrambled = rw (field 50 2 (omega arith)) refl
  fault_same video BadMarker = rw (field 48 2 (omega arith), times_sound_same) refl
  fault_same video BadLength = refl

  refusal_same : (video : Bool) → pes_refusal video (take most bytes) ≡ pes_refusal video bytes
  refusal_same video = rw (fault_same video BadPrefix, fault_same video Short, fault_same video Scrambled, fault_same video BadMarker) refl

  sound_same : (video : Bool) → is_length_sound video (take most bytes) ≡ is_length_sound video bytes
  sound_same video = rw (stated_same, eq_small (6 + pes_packet_length bytes) stated_few) refl

  cut_same : (video : Bool) → is_cut video (take most bytes) ≡ is_cut video bytes
  cut_same video = rw (stated_same, lt_small 6 (omega arith), lt_small (6 + pes_packet_length bytes) stated_few) refl

  -- ---- what refuses it, and its header

  pub packet_refusal_same : (video : Bool) → packet_refusal video (take most bytes) ≡ packet_refusal video bytes
  packet_refusal_same video = rw (refusal_same video, sound_same video) refl

  pub last_refusal_same : (video : Bool) → last_refusal video (take most bytes) ≡ last_refusal video bytes
  last_refusal_same video = rw (cut_same video, packet_refusal_same video, whole_same, fault_same video BadPrefix, fault_same video Scrambled, fault_same video BadMarker) refl

  pub dropped_same : (video : Bool) → is_dropped video (take most bytes) ≡ is_dropped video bytes
  dropped_same video = rw (cut_same video, whole_same) refl

  pub fields_same : pes_fields_of (take most bytes) ≡ pes_fields_of bytes
  fields_same = rw (id_same, stated_same, length_same, flags_same, time_same 9 (omega arith), time_same 14 (omega arith)) refl

  pub header_same : (video : Bool) → header_of video (take most bytes) ≡ header_of video bytes
  header_same video = rw (refusal_same video, fields_same) refl

  -- what is taken of a last packet
  pub kept_same : (video : Bool) → kept_header video (take most bytes) ≡ kept_header video bytes
  kept_same video = rw (dropped_same video, fields_same) refl
