-- The units that a video is cut into: each begins with a header, and behind a slice it has none.
use Rattle.std.proofs.Common.{◌≡◌, ◌⊎◌, ℕ, zero, suc, ◌+◌, ◌-◌, ◌<◌, ◌≤◌, ◌&&◌, ◌||◌, min, nat_lt, Bool, true, false, cond, List, [], ◌∷◌, All, filter, get_or, length, drop, Option, Some, None, refl, sym, ap, subst, ◌∙◌, inl, inr, arith}
use Rattle.std.specs.Prelude.{slice_range}
use Rattle.std.specs.List.{find, range_with_len}
use Rattle.std.specs.Option.{option_map}
use Rattle.std.proofs.lemmas.Bool.{and_parts, and_from, cases_lt, lt-ltb, ltb-true}
use Rattle.std.proofs.lemmas.List.{get_or-drop, get_or-take, length-drop, length-take}
use Rattle.std.proofs.lemmas.List.Elements.{All-cons, All-nil}
use Rattle.es_units.specs.StartCodes.{is_sequence_header, is_unit_start, has_code}
use Rattle.stream_constants.specs.SliceCodes.{is_slice}
use Rattle.es_units.specs.declared.units.Units.{Units}
use Rattle.es_units.specs.Units.{is_behind_slice, is_unit_cut, first_sequence, cuts_up_to, cuts_behind, cut_units}
use Rattle.list_types.specs.Spans.{spans}
use Rattle.es_units.proofs.BehindSlice.{behind_more}
use Rattle.unit_laws.proofs.Codes.{Code, CodeOf, code-has, has-code}

-- ---- the spans of a cut

-- a span of a video: a header with which a unit may begin stands first, and within it nothing is cut
pub record IsSpan (es : List ℕ) (span : ℕ × ℕ) : Type 0 where
  pub begins : has_code is_unit_start es span.0 ≡ true
  pub inside : span.1 ≤ length es
  pub none : (at : ℕ) → span.0 < at → at < span.1 → is_unit_cut es at ≡ false

-- from one span on, which begins at this place
spans_from : (es : List ℕ) (first n k from : ℕ) → k + n ≡ length es → first ≤ from → (from < k) ⊎ (from ≡ first) → has_code is_unit_start es from ≡ true
    → ((at : ℕ) → from < at → at < k → is_unit_cut es at ≡ false)
    → All (IsSpan es) (spans from (filter (λ at. is_unit_cut es at && nat_lt first at) (range_with_len k n)) (length es))
spans_from es first zero k from size low order begins none =
    All-cons (IsSpan es) (from, length es) [] (record { begins = begins; inside = omega arith; none = λ at behind within. none at behind (omega (arith, within, size)) }) (All-nil (IsSpan es))
spans_from es first (suc n) k from size low order begins none =
    by_test (is_unit_cut es k) (nat_lt first k) refl refl
    (λ behind header. spans_from es first n (k + 1) k (omega (arith, size)) (omega (arith, behind)) (inl (omega arith)) header (λ at after within. absurd (omega (arith, after, within))))
    (λ passed. spans_from es first n (k + 1) from (omega (arith, size)) low (further order) begins passed)
  where
    rest : List ℕ
    rest = filter (λ at. is_unit_cut es at && nat_lt first at) (range_with_len (k + 1) n)

    ordered : first < k → (from < k) ⊎ (from ≡ first) → from < k
    ordered lt (inl before) = before
    ordered lt (inr same) = omega (arith, lt, same)

    further : (from < k) ⊎ (from ≡ first) → (from < k + 1) ⊎ (from ≡ first)
    further (inl before) = inl (omega (arith, before))
    further (inr same) = inr same

    -- the place is no cut, or it isn't behind the place that the span begins at
    passed : (from < k → is_unit_cut es k ≡ false) → (at : ℕ) → from < at → at < k + 1 → is_unit_cut es at ≡ false
    passed here at behind within = elim (cases_lt at k) [
      | inl before ↦ none at behind before
      | inr last ↦
          let place : at ≡ k = omega (arith, within, last) in
          ap (is_unit_cut es) place ∙ here (omega (arith, behind, place))
    ]

    by_test : (cut late : Bool) → is_unit_cut es k ≡ cut → nat_lt first k ≡ late
        → (first < k → has_code is_unit_start es k ≡ true → All (IsSpan es) (spans k rest (length es)))
        → (((at : ℕ) → from < at → at < k + 1 → is_unit_cut es at ≡ false) → All (IsSpan es) (spans from rest (length es)))
        → All (IsSpan es) (spans from (cond (cut && late) (k ∷ rest) rest) (length es))
    by_test true true is lt cut_here on =
        let behind : first < k = ltb-true first k lt in
        let header : has_code is_unit_start es k ≡ true = (and_parts (has_code is_unit_start es k) (is_behind_slice es k) is).0 in
        All-cons (IsSpan es) (from, k) (spans k rest (length es)) (record { begins = begins; inside = omega (arith, size); none = none }) (cut_here behind header)
    by_test true false is lt cut_here on =
        on (passed (λ before. absurd (let no : nat_lt first k ≡ true = lt-ltb first k (omega (arith, low, before)) in let both : true ≡ false = sym no ∙ lt in cc)))
    by_test false late is lt cut_here on = on (passed (λ before. is))

-- what is found passes the test
found-passes : (test : ℕ → Bool) (n from found : ℕ) → find test (range_with_len from n) ≡ Some found → test found ≡ true
found-passes test zero from found is = absurd (let no : None ≡ Some found = is in cc)
found-passes test (suc n) from found is = by_test (test from) refl is (found-passes test n (from + 1) found)
  where
    by_test : (here : Bool) → test from ≡ here → cond here (Some from) (find test (range_with_len (from + 1) n)) ≡ Some found
        → (find test (range_with_len (from + 1) n) ≡ Some found → test found ≡ true) → test found ≡ true
    by_test true passes is later = let same : from ≡ found = cc in subst (λ (k : ℕ). test k ≡ true) same passes
    by_test false fails is later = later is

-- the units of a cut video: spans, of which the first begins with a sequence header
pub record AreSpans (es : List ℕ) (cuts : List (ℕ × ℕ)) : Type 0 where
  pub each : All (IsSpan es) cuts
  pub first : ℕ
  pub leads : has_code is_sequence_header es first ≡ true
  pub begins : (cut : ℕ × ℕ) (more : List (ℕ × ℕ)) → cuts ≡ cut ∷ more → cut.0 ≡ first

sequence_is_start : (value : ℕ) → is_sequence_header value ≡ true → is_unit_start value ≡ true
sequence_is_start value is = rw is refl

sequence-starts : (es : List ℕ) (at : ℕ) → has_code is_sequence_header es at ≡ true → has_code is_unit_start es at ≡ true
sequence-starts es at has =
    let found = has-code is_sequence_header es at has in
    code-has is_unit_start es at found.value found.code (sequence_is_start found.value found.passes)

first-begins : (first : ℕ) (cuts : List ℕ) (end : ℕ) (cut : ℕ × ℕ) (more : List (ℕ × ℕ)) → spans first cuts end ≡ cut ∷ more → cut.0 ≡ first
first-begins first [] end cut more is = let e : (first, end) ∷ [] ≡ cut ∷ more = is in let same : cut ≡ (first, end) = cc in ap (λ (c : ℕ × ℕ). c.0) same
first-begins first (c ∷ cs) end cut more is = let e : (first, c) ∷ spans c cs end ≡ cut ∷ more = is in let same : cut ≡ (first, c) = cc in ap (λ (c : ℕ × ℕ). c.0) same

pub cut-spans : (es : List ℕ) (units : Units) → cut_units es ≡ Some units → AreSpans es units.cuts
cut-spans es units is = by_first (first_sequence es) refl is
  where
    units_from : ℕ → Units
    units_from first = record { dropped = min (cuts_up_to es first) 4294967295; cuts = spans first (cuts_behind es first) (length es) }

    from_first : (first : ℕ) → first_sequence es ≡ Some first → AreSpans es (spans first (cuts_behind es first) (length es))
    from_first first found =
        let leads : has_code is_sequence_header es first ≡ true = found-passes (has_code is_sequence_header es) (length es - 0) 0 first found in
        record {
          each = spans_from es first (length es - 0) 0 first (omega arith) (omega arith) (inr refl) (sequence-starts es first leads) (λ at behind within. absurd (omega (arith, within)));
          first = first;
          leads = leads;
          begins = first-begins first (cuts_behind es first) (length es);
        }

    by_first : (first : Option ℕ) → first_sequence es ≡ first
        → option_map (λ first. record { dropped = min (cuts_up_to es first) 4294967295; cuts = spans first (cuts_behind es first) (length es) }) first ≡ Some units
        → AreSpans es units.cuts
    by_first None found is = absurd (let no : None ≡ Some units = is in cc)
    by_first (Some first) found is =
        let same : units_from first ≡ units = cc in
        subst (AreSpans es) (ap (λ (u : Units). u.cuts) same) (from_first first found)

-- ---- one span's bytes

module _ (es : List ℕ) (from to : ℕ) (inside : to ≤ length es) where
  span-size : length (slice_range es from to) ≡ min (to - from) (length es - from)
  span-size = length-take (to - from) (drop from es) ∙ ap (min (to - from)) (length-drop from es)

  byte-there : (i : ℕ) → i < length (slice_range es from to) → get_or (slice_range es from to) i 0 ≡ get_or es (from + i) 0
  byte-there i lt = get_or-take (to - from) (drop from es) i 0 (omega (arith, lt, span-size)) ∙ get_or-drop from es i 0

  -- a code of the span's bytes stands in the video
  pub code-out : (p value : ℕ) → Code (slice_range es from to) p value → Code es (from + p) value
  code-out p value code =
      let within = code.within in
      record {
        within = omega (arith, within, span-size);
        first = sym (byte-there p (omega (arith, within))) ∙ code.first;
        second = ap (λ (i : ℕ). get_or es i 0) (let e : from + p + 1 ≡ from + (p + 1) = omega arith in e) ∙ sym (byte-there (p + 1) (omega (arith, within))) ∙ code.second;
        third = ap (λ (i : ℕ). get_or es i 0) (let e : from + p + 2 ≡ from + (p + 2) = omega arith in e) ∙ sym (byte-there (p + 2) (omega (arith, within))) ∙ code.third;
        last = ap (λ (i : ℕ). get_or es i 0) (let e : from + p + 3 ≡ from + (p + 3) = omega arith in e) ∙ sym (byte-there (p + 3) within) ∙ code.last;
      }

  -- a code of the video at the span's first byte is one of its bytes
  pub code-in : (value : ℕ) → 3 < length (slice_range es from to) → Code es from value → Code (slice_range es from to) 0 value
  code-in value long code = record {
    within = omega (arith, long);
    first = byte-there 0 (omega (arith, long)) ∙ ap (λ (i : ℕ). get_or es i 0) (let e : from + 0 ≡ from = omega arith in e) ∙ code.first;
    second = byte-there 1 (omega (arith, long)) ∙ code.second;
    third = byte-there 2 (omega (arith, long)) ∙ code.third;
    last = byte-there 3 long ∙ code.last;
  }

-- ---- a unit

-- A unit of a video: it begins with a header, and has none behind a slice.
pub record IsSourceUnit (unit : List ℕ) : Type 0 where
  pub begins : 3 < length unit → CodeOf is_unit_start unit 0
  pub apart : (slice header : ℕ) → slice < header → CodeOf is_slice unit slice → CodeOf is_unit_start unit header → ⊥

module _ (es : List ℕ) (from to : ℕ) (span : IsSpan es (from, to)) where
  -- from a slice on, up to a place, the place is behind a slice
  behind-slice : (slice : ℕ) → from ≤ slice → has_code is_slice es slice ≡ true → (n : ℕ) → slice + 1 + n ≤ to → is_behind_slice es (slice + 1 + n) ≡ true
  behind-slice slice low is zero within =
      ap (is_behind_slice es) (let e : slice + 1 + 0 ≡ slice + 1 = omega arith in e) ∙ behind_more es slice ∙ rw is refl
  behind-slice slice low is (suc n) within =
      let before : is_behind_slice es (slice + 1 + n) ≡ true = behind-slice slice low is n (omega (arith, within)) in
      by_test (has_code is_unit_start es (slice + 1 + n)) refl before
    where
      or_yes : (a : Bool) → (a || true) ≡ true
      or_yes true = refl
      or_yes false = refl

      by_test : (header : Bool) → has_code is_unit_start es (slice + 1 + n) ≡ header → is_behind_slice es (slice + 1 + n) ≡ true → is_behind_slice es (slice + 1 + suc n) ≡ true
      by_test true header before =
          absurd (let cut : is_unit_cut es (slice + 1 + n) ≡ true = and_from _ _ header before in
          let no : is_unit_cut es (slice + 1 + n) ≡ false = span.none (slice + 1 + n) (omega (arith, low)) (omega (arith, within)) in
          let both : true ≡ false = sym cut ∙ no in cc)
      by_test false header before =
          ap (is_behind_slice es) (let e : slice + 1 + suc n ≡ (slice + 1 + n) + 1 = omega arith in e) ∙ behind_more es (slice + 1 + n)
          ∙ rw (header, before) (or_yes (has_code is_slice es (slice + 1 + n)))

  pub source-unit : IsSourceUnit (slice_range es from to)
  source-unit = record {
    begins = λ long.
        let found = has-code is_unit_start es from span.begins in
        record { value = found.value; code = code-in es from to span.inside found.value long found.code; passes = found.passes };
    apart = λ slice header lt first later.
        let slice_there : has_code is_slice es (from + slice) ≡ true = code-has is_slice es (from + slice) first.value (code-out es from to span.inside slice first.value first.code) first.passes in
        let header_there : has_code is_unit_start es (from + header) ≡ true =
        code-has is_unit_start es (from + header) later.value (code-out es from to span.inside header later.value later.code) later.passes in
        let inside : header + 3 < length (slice_range es from to) = (let code = later.code in code.within) in
        let size = span-size es from to span.inside in
        let n : ℕ = header - slice - 1 in
        let place : from + slice + 1 + n ≡ from + header = omega (arith, lt) in
        let behind : is_behind_slice es (from + header) ≡ true =
        ap (is_behind_slice es) (sym place) ∙ behind-slice (from + slice) (omega arith) slice_there n (omega (arith, lt, inside, size)) in
        let cut : is_unit_cut es (from + header) ≡ true = and_from _ _ header_there behind in
        let no : is_unit_cut es (from + header) ≡ false = span.none (from + header) (omega (arith, lt)) (omega (arith, inside, size)) in
        let both : true ≡ false = sym cut ∙ no in cc;
  }

-- the first unit begins with a sequence header
pub led-unit : (es : List ℕ) (from to : ℕ) → to ≤ length es → has_code is_sequence_header es from ≡ true → 3 < length (slice_range es from to) → CodeOf is_sequence_header (slice_range es from to) 0
led-unit es from to inside has long =
    let found = has-code is_sequence_header es from has in
    record { value = found.value; code = code-in es from to inside found.value long found.code; passes = found.passes }
