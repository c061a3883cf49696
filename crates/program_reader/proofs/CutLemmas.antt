-- The units of a video stand one behind the other.
use Rattle.std.proofs.Common.{◌≡◌, ℕ, zero, suc, ◌+◌, ◌-◌, ◌<◌, ◌≤◌, ◌^◌, ◌&&◌, min, nat_lt, Bool, true, false, cond, List, [], ◌∷◌, length, filter, Option, Some, None, refl, subst, ap, arith}
use Rattle.std.specs.List.{range_with_len}
use Rattle.std.specs.Option.{option_map}
use Rattle.std.proofs.lemmas.Bool.{and_parts, ltb-true}
use Rattle.std.proofs.lemmas.List.FromFn.{length-range_with_len}
use Rattle.audio_frames.proofs.Places.{found_passes}
use Rattle.es_units.specs.StartCodes.{is_sequence_header, has_code}
use Rattle.es_units.specs.declared.units.Units.{Units}
use Rattle.es_units.specs.Units.{is_unit_cut, first_sequence, cuts_up_to, cuts_behind, cut_units}
use Rattle.list_types.specs.Spans.{spans}
use Rattle.program_reader.specs.Private.KeptUnits.{Fits}
use Rattle.elementary_streams.proofs.CarriedSizes.{filter_count}

fits_spans : (test : ℕ → Bool) (n k from end lower : ℕ) → lower ≤ from → from ≤ end → k + n ≤ end → ((at : ℕ) → k ≤ at → test at ≡ true → from ≤ at) →
    Fits end lower (spans from (filter test (range_with_len k n)) end)
fits_spans test zero k from end lower low high within behind = (low, high, omega arith, tt)
fits_spans test (suc n) k from end lower low high within behind =
    by_test (test k) refl (λ le. fits_spans test n (k + 1) k end k (omega arith) (omega (arith, within)) (omega (arith, within)) (λ at more is. omega (arith, more)))
    (fits_spans test n (k + 1) from end lower low high (omega (arith, within)) (λ at more is. behind at (omega (arith, more)) is))
  where
    by_test : (here : Bool) → test k ≡ here → (from ≤ k → Fits end k (spans k (filter test (range_with_len (k + 1) n)) end)) →
        Fits end lower (spans from (filter test (range_with_len (k + 1) n)) end) →
        Fits end lower (spans from (cond here (k ∷ filter test (range_with_len (k + 1) n)) (filter test (range_with_len (k + 1) n))) end)
    by_test true is cut passed = let le : from ≤ k = behind k (omega arith) is in (low, le, omega (arith, within), cut le)
    by_test false is cut passed = passed

spans_count : (from : ℕ) (cuts : List ℕ) (end : ℕ) → length (spans from cuts end) ≡ suc (length cuts)
spans_count from [] end = refl
spans_count from (cut ∷ cuts) end = ap suc (spans_count cut cuts end)

abbrev AreCuts : List ℕ → Units → Type 0
AreCuts es units = Fits (length es) 0 units.cuts × (length units.cuts ≤ length es + 1)

-- the units that a first sequence header gives
abbrev units_from : List ℕ → ℕ → Units
units_from es first = record { dropped = min (cuts_up_to es first) (2 ^ 32 - 1); cuts = spans first (cuts_behind es first) (length es) }

from_first : (es : List ℕ) (first : ℕ) → first_sequence es ≡ Some first → AreCuts es (units_from es first)
from_first es first found =
    let inside : first < 0 + (length es - 0) = (found_passes (has_code is_sequence_header es) (length es - 0) 0 first found).1 in (
      fits_spans (λ at. is_unit_cut es at && nat_lt first at) (length es - 0) 0 first (length es) 0 (omega arith) (omega (arith, inside)) (omega arith)
          (λ at le test. (let lt : first < at = ltb-true first at (and_parts (is_unit_cut es at) (nat_lt first at) test).1 in omega (arith, lt))),
      omega (
        arith,
        spans_count first (cuts_behind es first) (length es),
        filter_count (λ at. is_unit_cut es at && nat_lt first at) (range_with_len 0 (length es - 0)),
        length-range_with_len 0 (length es - 0),
      ),
    )

pub cuts_fit : (es : List ℕ) (units : Units) → cut_units es ≡ Some units → AreCuts es units
cuts_fit es units is = by_first (first_sequence es) refl is
  where
    by_first : (first : Option ℕ) → first_sequence es ≡ first → option_map (units_from es) first ≡ Some units → AreCuts es units
    by_first None found is = absurd cc
    by_first (Some first) found is = let same : units_from es first ≡ units = cc in subst (AreCuts es) same (from_first es first found)
