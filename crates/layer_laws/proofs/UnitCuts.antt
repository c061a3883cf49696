-- The cuts of joined units are where they were joined.
use Rattle.std.proofs.Common.{
  ◌≡◌,
  ℕ,
  zero,
  suc,
  ◌+◌,
  ◌-◌,
  ◌<◌,
  nat_lt,
  nat_le,
  Bool,
  true,
  false,
  ◌&&◌,
  List,
  [],
  ◌∷◌,
  ◌++◌,
  All,
  length,
  filter,
  map,
  take,
  Some,
  refl,
  sym,
  ap,
  ap₂,
  ◌∙◌,
  arith,
  inl,
  inr,
  length-append,
  append_assoc,
}
use Rattle.std.specs.Prelude.{slice_index, slice_range}
use Rattle.std.specs.List.{concat}
use Rattle.std.proofs.lemmas.Bool.{and_left, and_right, and_from, or_right, lt-ltb, le-ltb, lt-leb, cases_lt}
use Rattle.std.proofs.lemmas.List.{append-nil, drop_at, take_at}
use Rattle.std.proofs.lemmas.List.Elements.{All-head, All-tail}
use Rattle.es_units.specs.StartCodes.{is_sequence_header, is_unit_start, has_code}
use Rattle.stream_constants.specs.SliceCodes.{is_slice}
use Rattle.es_units.specs.Units.{places, is_behind_slice, is_unit_cut, first_sequence, cuts_up_to, cuts_behind, cut_units}
use Rattle.list_types.specs.Spans.{spans}
use Rattle.es_units.proofs.BehindSlice.{behind_more}
use Rattle.es_units.proofs.CutSteps.{no_slice_at}
use Rattle.es_units.proofs.Places.{places_none, filter_from, filter_at, filter_none, find_place}
use Rattle.layer_laws.specs.WholeUnits.{IsLedBySequence, IsWholeUnit, placed_units}
use Rattle.layer_laws.proofs.CodesAtSeams.{is_code, code_within, code_inside, code_behind, code_before}
use Rattle.es_units.proofs.Spans.{late}

-- ---- one unit in a stream

-- the unit stands in the stream from a place on, with its start codes and no others
record Stands (es : List ℕ) (o : ℕ) (unit : List ℕ) : Type 0 where
  pub codes : (test : ℕ → Bool) (p : ℕ) → p < length unit → has_code test es (o + p) ≡ has_code test unit p

-- what follows a unit: 00 00, or nothing
record IsLow (rest : List ℕ) : Type 0 where
  pub first : slice_index rest 0 ≡ 0
  pub second : slice_index rest 1 ≡ 0

stands : (es before unit rest : List ℕ) (o : ℕ) → es ≡ before ++ (unit ++ rest) → o ≡ length before → IsWholeUnit unit → IsLow rest → Stands es o unit
stands es before unit rest o is at whole low = record {
  codes = λ test p within.
      ap₂ (λ (xs : List ℕ) (k : ℕ). has_code test xs (k + p)) is at ∙ code_behind test before (unit ++ rest) p ∙ code_before test unit rest p whole.no_prefix low.first low.second within;
}

module _ (es : List ℕ) (o : ℕ) (unit : List ℕ) (there : Stands es o unit) (whole : IsWholeUnit unit) where
  slice_inside : whole.slice + 3 < length unit
  slice_inside = code_inside is_slice unit whole.slice whole.slice_is

  header_there : has_code is_unit_start es o ≡ true
  header_there = ap (has_code is_unit_start es) (omega arith) ∙ there.codes is_unit_start 0 (omega (arith, slice_inside)) ∙ whole.begins

  -- up to its first slice no slice goes before a place without a header between
  not_yet : (n : ℕ) → n < whole.slice → is_behind_slice es (o + n + 1) ≡ false
  not_yet zero lt =
      let place : o + 0 + 1 ≡ o + 1 = omega arith in
      ap (is_behind_slice es) place ∙ behind_more es o ∙ rw (no_slice_at es o header_there, header_there) (and_right (is_behind_slice es o) false refl)
  not_yet (suc n) lt =
      let place : o + suc n + 1 ≡ (o + n + 1) + 1 = omega arith in
      let next : o + n + 1 ≡ o + (n + 1) = omega arith in
      let none : has_code is_slice es (o + n + 1) ≡ false = ap (has_code is_slice es) next ∙ there.codes is_slice (n + 1) (omega (arith, slice_inside)) ∙ whole.first_slice (n + 1) (omega arith) in
      ap (is_behind_slice es) place ∙ behind_more es (o + n + 1) ∙ rw (none, not_yet n (omega arith)) refl

  -- behind it one does
  from_slice : (n : ℕ) → whole.slice + n < length unit → is_behind_slice es (o + (whole.slice + n) + 1) ≡ true
  from_slice zero within =
      let place : o + (whole.slice + 0) + 1 ≡ (o + whole.slice) + 1 = omega arith in
      let here : has_code is_slice es (o + whole.slice) ≡ true = there.codes is_slice whole.slice (omega (arith, slice_inside)) ∙ whole.slice_is in
      ap (is_behind_slice es) place ∙ behind_more es (o + whole.slice) ∙ rw here refl
  from_slice (suc n) within =
      let place : o + (whole.slice + suc n) + 1 ≡ (o + (whole.slice + n) + 1) + 1 = omega arith in
      let next : o + (whole.slice + n) + 1 ≡ o + (whole.slice + suc n) = omega arith in
      let none : has_code is_unit_start es (o + (whole.slice + n) + 1) ≡ false =
      ap (has_code is_unit_start es) next ∙ there.codes is_unit_start (whole.slice + suc n) within ∙ whole.no_header (whole.slice + suc n) (omega arith) in
      ap (is_behind_slice es) place ∙ behind_more es (o + (whole.slice + n) + 1)
      ∙ rw (none, from_slice n (omega arith)) (or_right (has_code is_slice es (o + (whole.slice + n) + 1)) true refl)

  -- within the unit nothing is cut
  no_cut : (at : ℕ) → o < at → at < o + length unit → is_unit_cut es at ≡ false
  no_cut at behind within =
      let p : ℕ = at - o in
      let is : at ≡ o + p = omega arith in
      let place : at ≡ o + (p - 1) + 1 = omega arith in
      elim (cases_lt whole.slice p) [
        | inl later ↦ and_left _ _ (ap (has_code is_unit_start es) is ∙ there.codes is_unit_start p (omega arith) ∙ whole.no_header p later)
        | inr early ↦ and_right _ _ (ap (is_behind_slice es) place ∙ not_yet (p - 1) (omega arith))
      ]

  -- at its end it is, where a header follows
  cut_at_end : has_code is_unit_start es (o + length unit) ≡ true → is_unit_cut es (o + length unit) ≡ true
  cut_at_end header =
      let n : ℕ = length unit - 1 - whole.slice in
      let place : o + length unit ≡ o + (whole.slice + n) + 1 = omega (arith, slice_inside) in
      and_from _ _ header (ap (is_behind_slice es) place ∙ from_slice n (omega (arith, slice_inside)))

-- ---- all units

header_first : (unit rest : List ℕ) → IsWholeUnit unit → has_code is_unit_start (unit ++ rest) 0 ≡ true → IsLow (unit ++ rest)
header_first unit rest whole header =
    let bytes = is_code (unit ++ rest) 0 (code_within is_unit_start (unit ++ rest) 0 header) in
    record { first = bytes.0; second = bytes.1 }

-- a first unit's header isn't changed by what follows it
header_before : (unit rest : List ℕ) → IsWholeUnit unit → IsLow rest → has_code is_unit_start (unit ++ rest) 0 ≡ true
header_before unit rest whole low =
    code_before is_unit_start unit rest 0 whole.no_prefix low.first low.second (omega (arith, code_inside is_slice unit whole.slice whole.slice_is)) ∙ whole.begins

low_all : (units : List (List ℕ)) → All IsWholeUnit units → IsLow (concat units)
low_all [] each = record { first = refl; second = refl }
low_all (unit ∷ units) each =
    let whole = All-head IsWholeUnit unit units each in
    header_first unit (concat units) whole (header_before unit (concat units) whole (low_all units (All-tail IsWholeUnit unit units each)))

-- the units from one of them on, which stands at a place
spans_are : (es before unit : List ℕ) (more : List (List ℕ)) (o : ℕ) → es ≡ before ++ (unit ++ concat more) → o ≡ length before → All IsWholeUnit (unit ∷ more)
    → spans o (filter (late es 0) (places (o + 1) (length es))) (length es) ≡ placed_units o (unit ∷ more)
spans_are es before unit [] o is at each =
    let whole = All-head IsWholeUnit unit [] each in
    let there = stands es before unit [] o is at whole (low_all [] (All-tail IsWholeUnit unit [] each)) in
    let size : length es ≡ o + length unit = omega (arith, at, ap length is, length-append before (unit ++ []), ap length (append-nil unit)) in
    let none : filter (late es 0) (places (o + 1) (length es)) ≡ [] =
    filter_from (late es 0) (o + 1) (length es) (length es) (omega (arith, size, slice_inside es o unit there whole)) (omega arith)
    (λ k begun upto. and_left _ _ (no_cut es o unit there whole k (omega arith) (omega (arith, size)))) ∙ ap (filter (late es 0)) (places_none (length es)) in
    ap (λ (cuts : List ℕ). spans o cuts (length es)) none ∙ ap (λ (end : ℕ). (o, end) ∷ []) size
spans_are es before unit (next ∷ more) o is at each =
    let whole = All-head IsWholeUnit unit (next ∷ more) each in
    let others = All-tail IsWholeUnit unit (next ∷ more) each in
    let second = All-head IsWholeUnit next more others in
    let rest : List ℕ = concat (next ∷ more) in
    let there = stands es before unit rest o is at whole (low_all (next ∷ more) others) in
    let inside = slice_inside es o unit there whole in
    let behind : es ≡ (before ++ unit) ++ rest = is ∙ sym (append_assoc before unit rest) in
    let end : o + length unit ≡ length (before ++ unit) = omega (arith, at, length-append before unit) in
    let there_next = stands es (before ++ unit) next (concat more) (o + length unit) behind end second (low_all more (All-tail IsWholeUnit next more others)) in
    let size : length es ≡ o + length unit + length next + length (concat more) =
    omega (arith, end, ap length behind, length-append (before ++ unit) rest, length-append next (concat more)) in
    let inside_next = slice_inside es (o + length unit) next there_next second in
    let cut : late es 0 (o + length unit) ≡ true =
    and_from _ _ (cut_at_end es o unit there whole (header_there es (o + length unit) next there_next second)) (lt-ltb 0 (o + length unit) (omega (arith, inside))) in
    ap (λ (cuts : List ℕ). spans o cuts (length es)) (filter_at (late es 0) (o + 1) (o + length unit) (length es) (omega (arith, inside)) (omega (arith, size, inside_next))
    (λ k begun upto. and_left _ _ (no_cut es o unit there whole k (omega arith) (omega arith))) cut)
    ∙ ap (λ (spans : List (ℕ × ℕ)). (o, o + length unit) ∷ spans) (spans_are es (before ++ unit) next more (o + length unit) behind end others)

sequence_is_start : (test : ℕ) → is_sequence_header test ≡ true → is_unit_start test ≡ true
sequence_is_start test is = rw is refl

pub cut_again : (units : List (List ℕ)) → IsLedBySequence units → All IsWholeUnit units → cut_units (concat units) ≡ Some (record { dropped = 0; cuts = placed_units 0 units })
cut_again [] led each = absurd led
cut_again (unit ∷ units) led each =
    let es : List ℕ = unit ++ concat units in
    let whole = All-head IsWholeUnit unit units each in
    let low = low_all units (All-tail IsWholeUnit unit units each) in
    let size : 0 < length es = omega (arith, code_inside is_slice unit whole.slice whole.slice_is, length-append unit (concat units)) in
    let within : 0 < length unit = omega (arith, code_inside is_slice unit whole.slice whole.slice_is) in
    let header : has_code is_sequence_header es 0 ≡ true = code_before is_sequence_header unit (concat units) 0 whole.no_prefix low.first low.second within ∙ led in
    let first : first_sequence es ≡ Some 0 = find_place (has_code is_sequence_header es) (length es) 0 size header (λ at lt. absurd (omega arith)) in
    let dropped : cuts_up_to es 0 ≡ 0 = ap length (filter_none (λ at. is_unit_cut es at && nat_le at 0) 0 (length es) (omega arith) (λ at begun. not_early at)) in
    let cuts : spans 0 (cuts_behind es 0) (length es) ≡ placed_units 0 (unit ∷ units) =
    ap (λ (cuts : List ℕ). spans 0 cuts (length es)) (filter_from (late es 0) 0 1 (length es) (omega arith) size (λ at begun upto. and_right _ _ (le-ltb 0 at (omega arith))))
    ∙ spans_are es [] unit units 0 refl refl each in
    rw (first, dropped, cuts) refl
  where
    not_early : (at : ℕ) → (is_unit_cut (unit ++ concat units) at && nat_le at 0) ≡ false
    not_early zero = and_left _ _ (and_right (has_code is_unit_start (unit ++ concat units) 0) _ refl)
    not_early (suc n) = and_right _ _ (lt-leb (suc n) 0 (omega arith))

-- ---- the bytes at their places

bytes_from : (before : List ℕ) (o : ℕ) (units : List (List ℕ)) → o ≡ length before → map (λ (place : ℕ × ℕ). slice_range (before ++ concat units) place.0 place.1) (placed_units o units) ≡ units
bytes_from before o [] at = refl
bytes_from before o (unit ∷ units) at =
    let joined : before ++ concat (unit ∷ units) ≡ (before ++ unit) ++ concat units = sym (append_assoc before unit (concat units)) in
    ap₂ (λ (bytes : List ℕ) (others : List (List ℕ)). bytes ∷ others)
    (ap₂ (λ (n : ℕ) (bytes : List ℕ). take n bytes) (omega arith) (drop_at before (unit ++ concat units) o (sym at)) ∙ take_at unit (concat units) (length unit) refl)
    (ap (λ (es : List ℕ). map (λ (place : ℕ × ℕ). slice_range es place.0 place.1) (placed_units (o + length unit) units)) joined
    ∙ bytes_from (before ++ unit) (o + length unit) units (omega (arith, at, length-append before unit)))

pub bytes_again : (units : List (List ℕ)) → map (λ (place : ℕ × ℕ). slice_range (concat units) place.0 place.1) (placed_units 0 units) ≡ units
bytes_again units = bytes_from [] 0 units refl
