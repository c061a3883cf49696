-- One start code more: what is cut behind it.
use Rattle.std.proofs.Common.{◌≡◌, ℕ, ◌+◌, ◌-◌, ◌^◌, ◌<◌, ◌≤◌, Bool, true, false, ◌&&◌, min, nat_lt, nat_le, List, [], ◌∷◌, ◌++◌, length, filter, Option, Some, None, refl, sym, ap, subst, if◌then◌else◌, ◌∙◌, arith, append_assoc}
use Rattle.std.specs.Option.{option_or}
use Rattle.std.proofs.lemmas.Bool.{and_right, le-leb, lt-leb, lt-ltb, le-ltb}
use Rattle.std.proofs.lemmas.List.{append-nil, length-append}
use Rattle.list_types.specs.Spans.{spans}
use Rattle.stream_constants.specs.SliceCodes.{is_slice}
use Rattle.es_units.specs.declared.cut_state.CutState.{CutState}
use Rattle.es_units.specs.StartCodes.{is_start_code_at, start_code_at, is_sequence_header, is_unit_start, has_code}
use Rattle.es_units.specs.Units.{places, is_unit_cut}
use Rattle.es_units.specs.UnitCutter.{ended_from}
use Rattle.es_units.specs.CutUpTo.{first_before, cuts_before, early_before, late_before, IsBegun, IsAhead, HasUnits, IsCutUpTo}
use Rattle.es_units.specs.Private.CutState.{cuts_by, ended_by, begin_by, dropped_by, state_by}
use Rattle.es_units.proofs.BehindSlice.{behind_more}
use Rattle.es_units.proofs.Codes.{code_is}
use Rattle.es_units.proofs.Fronts.{filter_same, find_one, filter_one, cut_quiet}

and_yes : (a : Bool) → (a && true) ≡ a
and_yes true = refl
and_yes false = refl

module _ (es : List ℕ) (at : ℕ) where
  -- the next place is a cut, or isn't
  cuts_one : (is_cut : Bool) → is_unit_cut es at ≡ is_cut → cuts_before es (at + 1) ≡ cuts_before es at ++ (if is_cut then at ∷ [] else [])
  cuts_one is_cut is = filter_one (is_unit_cut es) at ∙ rw is refl

  -- up to the next place, which is the first sequence header
  early_all : early_before es at (at + 1) ≡ cuts_before es (at + 1)
  early_all = filter_same (λ k. is_unit_cut es k && nat_le k at) (is_unit_cut es) (at + 1) (λ k u. rw (le-leb k at (omega arith)) (and_yes (is_unit_cut es k)))

  late_none : late_before es at (at + 1) ≡ []
  late_none =
      filter_same (λ k. is_unit_cut es k && nat_lt at k) (λ k. false) (at + 1) (λ k u. and_right _ _ (le-ltb at k (omega arith)))
      ∙ none (places 0 (at + 1))
    where
      none : (ks : List ℕ) → filter (λ k. false) ks ≡ []
      none [] = refl
      none (k ∷ ks) = none ks

  early_same : (first : ℕ) → first < at → early_before es first (at + 1) ≡ early_before es first at
  early_same first less =
      filter_one (λ k. is_unit_cut es k && nat_le k first) at ∙ rw (and_right (is_unit_cut es at) (nat_le at first) (lt-leb at first less)) (append-nil (early_before es first at))

  late_one : (first : ℕ) (is_cut : Bool) → first < at → is_unit_cut es at ≡ is_cut → late_before es first (at + 1) ≡ late_before es first at ++ (if is_cut then at ∷ [] else [])
  late_one first is_cut less is = filter_one (λ k. is_unit_cut es k && nat_lt first k) at ∙ rw (is, lt-ltb first at less, and_yes is_cut) refl

  first_one : (is_first : Bool) → has_code is_sequence_header es at ≡ is_first → first_before es (at + 1) ≡ option_or (first_before es at) (if is_first then Some at else None)
  first_one is_first is = find_one (has_code is_sequence_header es) at ∙ rw is refl

  counted : (is_cut : Bool) (dropped most : ℕ) → is_unit_cut es at ≡ is_cut → dropped ≡ min (length (cuts_before es at)) most
      → (if is_cut then min (dropped + 1) most else dropped) ≡ min (length (cuts_before es (at + 1))) most
  counted true dropped most is count = omega (arith, count, ap length (cuts_one true is), length-append (cuts_before es at) (at ∷ []))
  counted false dropped most is count = count ∙ ap (λ (ks : List ℕ). min (length ks) most) (sym (cuts_one false is ∙ append-nil (cuts_before es at)))

  -- no sequence header stands before the place
  ahead_one : (given : List (ℕ × ℕ)) (dropped : ℕ) (is_cut is_first : Bool) → is_unit_cut es at ≡ is_cut → has_code is_sequence_header es at ≡ is_first
      → IsAhead es at given dropped → HasUnits es (at + 1) given (if is_first then Some at else None) (if is_cut then min (dropped + 1) (2 ^ 32 - 1) else dropped)
  ahead_one given dropped is_cut false cut first has = record {
    none = first_one false first ∙ ap (λ (o : Option ℕ). option_or o None) has.none;
    count = counted is_cut dropped (2 ^ 32 - 1) cut has.count;
    given_are = has.given_are;
  }
  ahead_one given dropped is_cut true cut first has = record {
    first = at;
    found = first_one true first ∙ ap (λ (o : Option ℕ). option_or o (Some at)) has.none;
    count = counted is_cut dropped (2 ^ 32 - 1) cut has.count ∙ ap (λ (ks : List ℕ). min (length ks) (2 ^ 32 - 1)) (sym early_all);
    units = λ later end. ap (λ (ks : List ℕ). spans at (ks ++ later) end) late_none ∙ ap (λ (units : List (ℕ × ℕ)). units ++ spans at later end) (sym has.given_are);
    first_in = omega arith;
    before = omega arith;
  }

  -- a sequence header stands before the place
  begun_one : (given : List (ℕ × ℕ)) (begin dropped : ℕ) (is_cut is_first : Bool) → is_unit_cut es at ≡ is_cut → has_code is_sequence_header es at ≡ is_first
      → IsBegun es at given begin dropped → HasUnits es (at + 1) (given ++ (if is_cut then (begin, at) ∷ [] else [])) (if is_cut then Some at else Some begin) dropped
  begun_one given begin dropped true is_first cut first has = record {
    first = has.first;
    found = first_one is_first first ∙ ap (λ (o : Option ℕ). option_or o (if is_first then Some at else None)) has.found;
    count = has.count ∙ ap (λ (ks : List ℕ). min (length ks) (2 ^ 32 - 1)) (sym (early_same has.first has.first_in));
    units = λ later end.
        ap (λ (ks : List ℕ). spans has.first (ks ++ later) end) (late_one has.first true has.first_in cut)
        ∙ ap (λ (ks : List ℕ). spans has.first ks end) (append_assoc (late_before es has.first at) (at ∷ []) later)
        ∙ has.units (at ∷ later) end ∙ sym (append_assoc given ((begin, at) ∷ []) (spans at later end));
    first_in = omega (arith, has.first_in);
    before = omega arith;
  }
  begun_one given begin dropped false is_first cut first has = record {
    first = has.first;
    found = first_one is_first first ∙ ap (λ (o : Option ℕ). option_or o (if is_first then Some at else None)) has.found;
    count = has.count ∙ ap (λ (ks : List ℕ). min (length ks) (2 ^ 32 - 1)) (sym (early_same has.first has.first_in));
    units = λ later end.
        ap (λ (ks : List ℕ). spans has.first (ks ++ later) end) (late_one has.first false has.first_in cut ∙ append-nil (late_before es has.first at))
        ∙ has.units later end ∙ ap (λ (units : List (ℕ × ℕ)). units ++ spans begin later end) (sym (append-nil given));
    first_in = omega (arith, has.first_in);
    before = omega (arith, has.before);
  }

none_given : (given : List (ℕ × ℕ)) (is_cut : Bool) (begin : Option ℕ) → given ++ ended_from (if is_cut then None else None) begin ≡ given
none_given given true begin = append-nil given
none_given given false begin = append-nil given

some_given : (is_cut : Bool) (begin at : ℕ) → ended_from (if is_cut then Some begin else None) (if is_cut then Some at else Some begin) ≡ (if is_cut then (begin, at) ∷ [] else [])
some_given true begin at = refl
some_given false begin at = refl

has_one : (es : List ℕ) (at value : ℕ) (given : List (ℕ × ℕ)) (begin : Option ℕ) (dropped : ℕ) (is_cut : Bool) → is_unit_cut es at ≡ is_cut
    → has_code is_sequence_header es at ≡ is_sequence_header value → HasUnits es at given begin dropped
    → HasUnits es (at + 1) (given ++ ended_from (if is_cut then begin else None) (begin_by begin is_cut at value)) (begin_by begin is_cut at value) (dropped_by begin is_cut dropped)
has_one es at value given None dropped is_cut cut first has =
    subst (λ (units : List (ℕ × ℕ)). HasUnits es (at + 1) units (begin_by None is_cut at value) (dropped_by None is_cut dropped))
    (sym (none_given given is_cut (begin_by None is_cut at value)))
    (ahead_one es at given dropped is_cut (is_sequence_header value) cut first has)
has_one es at value given (Some begin) dropped is_cut cut first has =
    subst (λ (units : List (ℕ × ℕ)). HasUnits es (at + 1) (given ++ units) (begin_by (Some begin) is_cut at value) dropped)
    (sym (some_given is_cut begin at))
    (begun_one es at given begin dropped is_cut (is_sequence_header value) cut first has)

-- behind the next start code
pub cut_one : (es : List ℕ) (from at value : ℕ) (given : List (ℕ × ℕ)) (state : CutState) → from ≤ at
    → ((k : ℕ) → from ≤ k → k < at → is_start_code_at es k ≡ false) → start_code_at es at ≡ Some value → IsCutUpTo es from given state
    → IsCutUpTo es (at + 1) (given ++ ended_from (ended_by state value) (state_by state at value).begin) (state_by state at value)
cut_one es from at value given state le none code cut =
    let here : IsCutUpTo es at given state = cut_quiet es from at le none given state cut in
    let slice : has_code is_slice es at ≡ is_slice value = code_is is_slice es at value code in
    let start : has_code is_unit_start es at ≡ is_unit_start value = code_is is_unit_start es at value code in
    let first : has_code is_sequence_header es at ≡ is_sequence_header value = code_is is_sequence_header es at value code in
    let is_cut : is_unit_cut es at ≡ cuts_by state value = rw (start, here.behind) refl in
    record {
      behind = sym (behind_more es at ∙ rw (slice, start, here.behind) refl);
      has = has_one es at value given state.begin state.dropped (cuts_by state value) is_cut first here.has;
    }
