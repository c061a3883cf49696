-- What is written is read: a written header with any payload behind it is one.
use Rattle.std.proofs.Common.{◌≡◌, ℕ, ◌+◌, ◌*◌, ◌/◌, ◌%◌, ◌^◌, ◌<◌, true, false, cond, List, ◌++◌, length, get_or, take, drop, Option, Some, None, refl, sym, ap, ◌∙◌, arith}
use Rattle.std.proofs.Math.Seq.{take-append_seam}
use Rattle.std.specs.Prelude.{IfSome, IsSome, nat_eq}
use Rattle.bit_lists.specs.Fields.{bit, bits}
use Rattle.bit_lists.proofs.WordLemmas.{bits-part, bits-five}
use Rattle.pes_units.specs.declared.pes_header.PesHeader.{PesHeader}
use Rattle.pes_units.specs.declared.times.Times.{Times}
use Rattle.pes_units.specs.PesHeader.{IsPesHeader}
use Rattle.pes_units.specs.Times.{IsTimeAt}
use Rattle.pes_units.specs.VideoHeader.{AreInRange, IsBesidePts, spelled, time_word, written_dts, written_fields, written_pes_header}
use Rattle.pes_units.proofs.TimeFields.{word_at, time_in, time_at-word}

-- the five bytes of a number
word-spelled : (bytes : List ℕ) (place n : ℕ) → n < 2 ^ 40 → get_or bytes place 0 ≡ n / 2 ^ 32 % 256 → get_or bytes (place + 1) 0 ≡ n / 2 ^ 24 % 256
    → get_or bytes (place + 2) 0 ≡ n / 2 ^ 16 % 256 → get_or bytes (place + 3) 0 ≡ n / 2 ^ 8 % 256 → get_or bytes (place + 4) 0 ≡ n % 256
    → word_at bytes place ≡ n
word-spelled bytes place n fits first second third fourth fifth = omega (arith, bits-five bytes place)

module _ (which time : ℕ) (which_fits : which < 4) (time_fits : time < 2 ^ 33) where
  time_word-below : time_word which time < 2 ^ 40
  time_word-below = omega arith

  time_in-spelled : time_in (time_word which time) ≡ time
  time_in-spelled = omega arith

  first_marker-spelled : time_word which time / 2 ^ 32 % 2 ^ 1 ≡ 1
  first_marker-spelled = omega arith

  second_marker-spelled : time_word which time / 2 ^ 16 % 2 ^ 1 ≡ 1
  second_marker-spelled = omega arith

  third_marker-spelled : time_word which time / 2 ^ 0 % 2 ^ 1 ≡ 1
  third_marker-spelled = omega arith

  -- a written time stands
  time-spelled : (bytes : List ℕ) (place : ℕ) → word_at bytes place ≡ time_word which time → IsTimeAt time bytes place
  time-spelled bytes place same = record {
    value = sym (time_at-word bytes place ∙ ap time_in same ∙ time_in-spelled);
    first_marker = bits-part bytes (8 * place) 7 1 32 ∙ ap (λ word. word / 2 ^ 32 % 2 ^ 1) same ∙ first_marker-spelled;
    second_marker = bits-part bytes (8 * place) 23 1 16 ∙ ap (λ word. word / 2 ^ 16 % 2 ^ 1) same ∙ second_marker-spelled;
    third_marker = bits-part bytes (8 * place) 39 1 0 ∙ ap (λ word. word / 2 ^ 0 % 2 ^ 1) same ∙ third_marker-spelled;
  }

-- what is read of a written header
abbrev read_of : Option ℕ → Option ℕ → PesHeader
read_of pts dts = record { stream_id = 0xE0; stated = 0; times = record { pts = pts; dts = dts }; len = length (spelled pts dts) }

none-read : (payload : List ℕ) → 0 < length payload → IsPesHeader true (read_of None None) (spelled None None ++ payload)
unfolding bit bits
none-read payload behind = record {
  prefix = refl;
  kind = refl;
  stream_id = refl;
  stated = refl;
  fixed = refl;
  scrambling = refl;
  times = refl;
  len = refl;
  followed = omega arith;
}

pts-read : (pts : ℕ) (payload : List ℕ) → pts < 2 ^ 33 → 0 < length payload → IsPesHeader true (read_of (Some pts) None) (spelled (Some pts) None ++ payload)
unfolding bit bits
pts-read pts payload fits behind =
    let bytes : List ℕ = spelled (Some pts) None ++ payload in
    let word : word_at bytes 9 ≡ time_word 2 pts = word-spelled bytes 9 (time_word 2 pts) (omega arith) refl refl refl refl refl in
    record {
      prefix = refl;
      kind = refl;
      stream_id = refl;
      stated = refl;
      fixed = refl;
      scrambling = refl;
      times = (refl, omega arith, time-spelled 2 pts (omega arith) fits bytes 9 word);
      len = refl;
      followed = omega arith;
    }

both-read : (pts dts : ℕ) (payload : List ℕ) → pts < 2 ^ 33 → dts < 2 ^ 33 → 0 < length payload → IsPesHeader true (read_of (Some pts) (Some dts)) (spelled (Some pts) (Some dts) ++ payload)
unfolding bit bits
both-read pts dts payload pts_fits dts_fits behind =
    let bytes : List ℕ = spelled (Some pts) (Some dts) ++ payload in
    let pts_word : word_at bytes 9 ≡ time_word 3 pts = word-spelled bytes 9 (time_word 3 pts) (omega arith) refl refl refl refl refl in
    let dts_word : word_at bytes 14 ≡ time_word 1 dts = word-spelled bytes 14 (time_word 1 dts) (omega arith) refl refl refl refl refl in
    record {
      prefix = refl;
      kind = refl;
      stream_id = refl;
      stated = refl;
      fixed = refl;
      scrambling = refl;
      times = (refl, omega arith, time-spelled 3 pts (omega arith) pts_fits bytes 9 pts_word, time-spelled 1 dts (omega arith) dts_fits bytes 14 dts_word);
      len = refl;
      followed = omega arith;
    }

spelled-read : (pts dts : Option ℕ) (payload : List ℕ) → IfSome pts (λ n. n < 2 ^ 33) → IfSome dts (λ n. n < 2 ^ 33) → (IsSome dts → IsSome pts)
    → 0 < length payload → IsPesHeader true (read_of pts (written_dts pts dts)) (spelled pts (written_dts pts dts) ++ payload)
spelled-read None dts payload pts_fits dts_fits beside behind = none-read payload behind
spelled-read (Some pts) None payload pts_fits dts_fits beside behind = pts-read pts payload pts_fits behind
spelled-read (Some pts) (Some dts) payload pts_fits dts_fits beside behind =
    elim (nat_eq dts pts) as (λ same. IsPesHeader true (read_of (Some pts) (cond same None (Some dts))) (spelled (Some pts) (cond same None (Some dts)) ++ payload)) [
      | true ↦ pts-read pts payload pts_fits behind
      | false ↦ both-read pts dts payload pts_fits dts_fits behind
    ]

-- what stands in the buffer is read
pub written-read : (times : Times) → AreInRange times → IsBesidePts times → (n : ℕ) (old new : List ℕ) → n ≡ length (written_pes_header times) → new ≡ written_pes_header times ++ drop n old →
    (payload : List ℕ) → 0 < length payload → IsPesHeader true (written_fields times) (take n new ++ payload)
written-read times in_range beside n old new size bytes payload behind =
    let taken : take n new ≡ written_pes_header times = ap (take n) bytes ∙ ap (λ k. take k (written_pes_header times ++ drop n old)) size ∙ take-append_seam (written_pes_header times) (drop n old) in
    rw taken (spelled-read times.pts times.dts payload in_range.0 in_range.1 beside behind)
