-- Sound times are the times that the header has.
use Rattle.std.proofs.Common.{◌≡◌, ℕ, zero, suc, ◌<◌, ◌⊎◌, inl, inr, true, ◌&&◌, List, refl, arith, leb}
use Rattle.std.proofs.lemmas.Bool.{and_parts, leb-true}
use Rattle.std.proofs.lemmas.Bool.Decides.{nat_tests}
use Rattle.pes_units.specs.Times.{pts_dts_flags, pes_header_data_length, time_at, has_markers, IsTimeAt, HasTimes, are_times_sound, times_of}
use Rattle.pes_units.proofs.Elements.{pts_dts_flags-is}

four_cases : (n : ℕ) → n < 4 → (n ≡ 0) ⊎ ((n ≡ 1) ⊎ ((n ≡ 2) ⊎ (n ≡ 3)))
four_cases zero below = inl refl
four_cases (suc zero) below = inr (inl refl)
four_cases (suc (suc zero)) below = inr (inr (inl refl))
four_cases (suc (suc (suc zero))) below = inr (inr (inr refl))
four_cases (suc (suc (suc (suc n)))) below = absurd (omega arith)

-- a time whose markers are tested
pub time-marked : (bytes : List ℕ) (place : ℕ) → has_markers bytes place ≡ true → IsTimeAt (time_at bytes place) bytes place
time-marked bytes place marked = record {
  value = refl;
  first_marker = grind (arith, nat_tests);
  second_marker = grind (arith, nat_tests);
  third_marker = grind (arith, nat_tests);
}

pub sound-has : (bytes : List ℕ) → are_times_sound bytes ≡ true → HasTimes (times_of bytes).pts (times_of bytes).dts bytes
sound-has bytes sound =
    let below : pts_dts_flags bytes < 4 = omega (arith, pts_dts_flags-is bytes) in
    elim (four_cases (pts_dts_flags bytes) below) [
      | inl none ↦ rw none none
      | inr (inl forbidden) ↦ let refused = rw forbidden at sound in absurd cc
      | inr (inr (inl one)) ↦
          let tests = and_parts (leb 5 (pes_header_data_length bytes)) (has_markers bytes 9) (rw one at sound) in
          rw one (one, leb-true 5 (pes_header_data_length bytes) tests.0, time-marked bytes 9 tests.1)
      | inr (inr (inr both)) ↦
          let tests = and_parts (leb 10 (pes_header_data_length bytes)) (has_markers bytes 9 && has_markers bytes 14) (rw both at sound) in
          let markers = and_parts (has_markers bytes 9) (has_markers bytes 14) tests.1 in
          rw both (both, leb-true 10 (pes_header_data_length bytes) tests.0, time-marked bytes 9 markers.0, time-marked bytes 14 markers.1)
    ]
