-- What is cut up to a place of a stream's front is cut of the stream.
use Rattle.std.proofs.Common.{◌≡◌, ℕ, zero, suc, ◌+◌, ◌-◌, ◌^◌, ◌<◌, ◌≤◌, Bool, true, false, ◌&&◌, min, nat_lt, nat_le, List, [], ◌∷◌, ◌++◌, length, filter, Option, Some, None, refl, sym, ap, subst, if◌then◌else◌, ◌∙◌, arith}
use Rattle.std.specs.List.{find, range_with_len}
use Rattle.std.specs.Option.{option_map, option_or}
use Rattle.std.proofs.lemmas.Bool.{and_left, le-ltb}
use Rattle.std.proofs.lemmas.List.{append-nil}
use Rattle.std.proofs.lemmas.List.Folds.{find-append}
use Rattle.list_types.specs.Spans.{spans}
use Rattle.stream_constants.specs.SliceCodes.{is_slice}
use Rattle.es_units.specs.declared.cut_state.CutState.{CutState}
use Rattle.es_units.specs.declared.units.Units.{Units}
use Rattle.es_units.specs.StartCodes.{is_start_code_at, is_sequence_header, is_unit_start, has_code}
use Rattle.es_units.specs.Units.{places, is_behind_slice, is_unit_cut, first_sequence, cuts_up_to, cuts_behind, cut_units}
use Rattle.es_units.specs.UnitCutter.{BeginWith, units_with_open}
use Rattle.es_units.specs.CutUpTo.{late_before, HasUnits, IsCutUpTo}
use Rattle.es_units.proofs.BehindSlice.{behind_more, behind_same}
use Rattle.es_units.proofs.Codes.{no_code}
use Rattle.es_units.proofs.FrontCodes.{front_same}
use Rattle.es_units.proofs.Places.{places_more, places_none, filter_from}
use Rattle.es_units.proofs.Spans.{units_are}

-- ---- tests that agree on a range

filter_range : (p q : ℕ → Bool) (n from : ℕ) → ((k : ℕ) → from ≤ k → k < from + n → p k ≡ q k) → filter p (range_with_len from n) ≡ filter q (range_with_len from n)
filter_range p q zero from same = refl
filter_range p q (suc n) from same =
    let here : p from ≡ q from = same from (omega arith) (omega arith) in
    let rest : filter p (range_with_len (from + 1) n) ≡ filter q (range_with_len (from + 1) n) = filter_range p q n (from + 1) (λ k b u. same k (omega arith) (omega arith)) in
    rw (here, rest) refl

pub find_range_same : (p q : ℕ → Bool) (n from : ℕ) → ((k : ℕ) → from ≤ k → k < from + n → p k ≡ q k) → find p (range_with_len from n) ≡ find q (range_with_len from n)
find_range_same p q zero from same = refl
find_range_same p q (suc n) from same =
    let here : p from ≡ q from = same from (omega arith) (omega arith) in
    let rest : find p (range_with_len (from + 1) n) ≡ find q (range_with_len (from + 1) n) = find_range_same p q n (from + 1) (λ k b u. same k (omega arith) (omega arith)) in
    rw (here, rest) refl

pub filter_same : (p q : ℕ → Bool) (to : ℕ) → ((k : ℕ) → k < to → p k ≡ q k) → filter p (places 0 to) ≡ filter q (places 0 to)
filter_same p q to same = filter_range p q (to - 0) 0 (λ k b u. same k (omega arith))

pub find_same : (p q : ℕ → Bool) (to : ℕ) → ((k : ℕ) → k < to → p k ≡ q k) → find p (places 0 to) ≡ find q (places 0 to)
find_same p q to same = find_range_same p q (to - 0) 0 (λ k b u. same k (omega arith))

split_range : (n m from sum : ℕ) → sum ≡ n + m → range_with_len from sum ≡ range_with_len from n ++ range_with_len (from + n) m
split_range zero m from sum is =
    let count : sum ≡ m = omega (arith, is) in
    let here : from ≡ from + 0 = omega arith in
    ap (range_with_len from) count ∙ ap (λ (k : ℕ). range_with_len k m) here
split_range (suc n) m from sum is =
    let count : sum ≡ suc (n + m) = omega (arith, is) in
    let next : (from + 1) + n ≡ from + suc n = omega arith in
    ap (range_with_len from) count ∙ ap (λ (ks : List ℕ). from ∷ ks) (split_range n m (from + 1) (n + m) refl ∙ ap (λ (k : ℕ). range_with_len (from + 1) n ++ range_with_len k m) next)

-- places up to one, and from it on
pub places_split : (to end : ℕ) → to ≤ end → places 0 end ≡ places 0 to ++ places to end
places_split to end le =
    let from : 0 + (to - 0) ≡ to = omega arith in
    split_range (to - 0) (end - to) 0 (end - 0) (omega arith) ∙ ap (λ (k : ℕ). places 0 to ++ range_with_len k (end - to)) from

pub filter_append : (p : ℕ → Bool) (xs ys : List ℕ) → filter p (xs ++ ys) ≡ filter p xs ++ filter p ys
filter_append p [] ys = refl
filter_append p (x ∷ xs) ys = by_test (p x) refl (filter_append p xs ys)
  where
    by_test : (b : Bool) → p x ≡ b → filter p (xs ++ ys) ≡ filter p xs ++ filter p ys → filter p (x ∷ xs ++ ys) ≡ filter p (x ∷ xs) ++ filter p ys
    by_test true is rest = rw (is, rest) refl
    by_test false is rest = rw (is, rest) refl

pub filter_split : (p : ℕ → Bool) (to end : ℕ) → to ≤ end → filter p (places 0 end) ≡ filter p (places 0 to) ++ filter p (places to end)
filter_split p to end le = ap (filter p) (places_split to end le) ∙ filter_append p (places 0 to) (places to end)

-- a test that fails from a place up to another
pub filter_quiet : (p : ℕ → Bool) (from to : ℕ) → from ≤ to → ((k : ℕ) → from ≤ k → k < to → p k ≡ false) → filter p (places 0 to) ≡ filter p (places 0 from)
filter_quiet p from to le none =
    let rest : filter p (places from to) ≡ [] = filter_from p from to to le (omega arith) none ∙ ap (filter p) (places_none to) in
    filter_split p from to le ∙ ap (λ (ks : List ℕ). filter p (places 0 from) ++ ks) rest ∙ append-nil (filter p (places 0 from))

find_none : (p : ℕ → Bool) (n from : ℕ) → ((k : ℕ) → from ≤ k → k < from + n → p k ≡ false) → find p (range_with_len from n) ≡ None
find_none p zero from none = refl
find_none p (suc n) from none = rw (none from (omega arith) (omega arith)) (find_none p n (from + 1) (λ k b u. none k (omega arith) (omega arith)))

or_none : (o : Option ℕ) → option_or o None ≡ o
or_none None = refl
or_none (Some x) = refl

pub find_quiet : (p : ℕ → Bool) (from to : ℕ) → from ≤ to → ((k : ℕ) → from ≤ k → k < to → p k ≡ false) → find p (places 0 to) ≡ find p (places 0 from)
find_quiet p from to le none =
    ap (find p) (places_split from to le) ∙ find-append p (places 0 from) (places from to)
    ∙ ap (option_or (find p (places 0 from))) (find_none p (to - from) from (λ k b u. none k b (omega arith))) ∙ or_none (find p (places 0 from))

pub find_one : (p : ℕ → Bool) (at : ℕ) → find p (places 0 (at + 1)) ≡ option_or (find p (places 0 at)) (if p at then Some at else None)
find_one p at = ap (find p) (places_more 0 at (omega arith)) ∙ find-append p (places 0 at) (at ∷ [])

pub filter_one : (p : ℕ → Bool) (at : ℕ) → filter p (places 0 (at + 1)) ≡ filter p (places 0 at) ++ (if p at then at ∷ [] else [])
filter_one p at = ap (filter p) (places_more 0 at (omega arith)) ∙ filter_append p (places 0 at) (at ∷ [])

-- ---- the same in the front and in the whole

module _ (es more : List ℕ) where
  pub behind_front : (to : ℕ) → ((k : ℕ) → k < to → k + 3 < length es) → is_behind_slice (es ++ more) to ≡ is_behind_slice es to
  behind_front zero within = refl
  behind_front (suc to) within =
      let next : suc to ≡ to + 1 = omega arith in
      let last : to + 3 < length es = within to (omega arith) in
      let before : is_behind_slice (es ++ more) to ≡ is_behind_slice es to = behind_front to (λ k u. within k (omega arith)) in
      ap (is_behind_slice (es ++ more)) next ∙ behind_more (es ++ more) to
      ∙ rw (front_same is_slice es more to last, front_same is_unit_start es more to last, before) refl
      ∙ sym (behind_more es to) ∙ ap (is_behind_slice es) (sym next)

  pub cut_front : (at : ℕ) → at + 3 < length es → is_unit_cut (es ++ more) at ≡ is_unit_cut es at
  cut_front at within = rw (front_same is_unit_start es more at within, behind_front at (λ k u. omega arith)) refl

  has_front : (to : ℕ) (given : List (ℕ × ℕ)) (begin : Option ℕ) (dropped : ℕ) → ((k : ℕ) → k < to → k + 3 < length es)
      → HasUnits es to given begin dropped → HasUnits (es ++ more) to given begin dropped
  has_front to given None dropped within has = record {
    none = find_same (has_code is_sequence_header (es ++ more)) (has_code is_sequence_header es) to (λ k u. front_same is_sequence_header es more k (within k u)) ∙ has.none;
    count = has.count ∙ ap (λ (ks : List ℕ). min (length ks) (2 ^ 32 - 1)) (sym (filter_same (is_unit_cut (es ++ more)) (is_unit_cut es) to (λ k u. cut_front k (within k u))));
    given_are = has.given_are;
  }
  has_front to given (Some begin) dropped within has = record {
    first = has.first;
    found = find_same (has_code is_sequence_header (es ++ more)) (has_code is_sequence_header es) to (λ k u. front_same is_sequence_header es more k (within k u)) ∙ has.found;
    count = has.count ∙ ap (λ (ks : List ℕ). min (length ks) (2 ^ 32 - 1)) (sym (filter_same (λ at. is_unit_cut (es ++ more) at && nat_le at has.first)
        (λ at. is_unit_cut es at && nat_le at has.first) to (λ k u. ap (λ (b : Bool). b && nat_le k has.first) (cut_front k (within k u)))));
    units = λ later end. ap (λ (ks : List ℕ). spans has.first (ks ++ later) end) (filter_same (λ at. is_unit_cut (es ++ more) at && nat_lt has.first at)
        (λ at. is_unit_cut es at && nat_lt has.first at) to (λ k u. ap (λ (b : Bool). b && nat_lt has.first k) (cut_front k (within k u)))) ∙ has.units later end;
    first_in = has.first_in;
    before = has.before;
  }

  pub cut_moved : (to : ℕ) (given : List (ℕ × ℕ)) (state : CutState) → ((k : ℕ) → k < to → k + 3 < length es)
      → IsCutUpTo es to given state → IsCutUpTo (es ++ more) to given state
  cut_moved to given state within cut = record {
    behind = cut.behind ∙ sym (behind_front to within);
    has = has_front to given state.begin state.dropped within cut.has;
  }

-- ---- where no start code stands nothing changes

module _ (es : List ℕ) (from to : ℕ) (le : from ≤ to) (none : (k : ℕ) → from ≤ k → k < to → is_start_code_at es k ≡ false) where
  no_cut : (k : ℕ) → from ≤ k → k < to → is_unit_cut es k ≡ false
  no_cut k b u = and_left _ _ (no_code is_unit_start es k (none k b u))

  has_quiet : (given : List (ℕ × ℕ)) (begin : Option ℕ) (dropped : ℕ) → HasUnits es from given begin dropped → HasUnits es to given begin dropped
  has_quiet given None dropped has = record {
    none = find_quiet (has_code is_sequence_header es) from to le (λ k b u. no_code is_sequence_header es k (none k b u)) ∙ has.none;
    count = has.count ∙ ap (λ (ks : List ℕ). min (length ks) (2 ^ 32 - 1)) (sym (filter_quiet (is_unit_cut es) from to le no_cut));
    given_are = has.given_are;
  }
  has_quiet given (Some begin) dropped has = record {
    first = has.first;
    found = find_quiet (has_code is_sequence_header es) from to le (λ k b u. no_code is_sequence_header es k (none k b u)) ∙ has.found;
    count = has.count ∙ ap (λ (ks : List ℕ). min (length ks) (2 ^ 32 - 1)) (sym (filter_quiet (λ at. is_unit_cut es at && nat_le at has.first) from to le
        (λ k b u. and_left _ _ (no_cut k b u))));
    units = λ later end. ap (λ (ks : List ℕ). spans has.first (ks ++ later) end) (filter_quiet (λ at. is_unit_cut es at && nat_lt has.first at) from to le
        (λ k b u. and_left _ _ (no_cut k b u))) ∙ has.units later end;
    first_in = omega (arith, has.first_in);
    before = omega (arith, has.before);
  }

  pub cut_quiet : (given : List (ℕ × ℕ)) (state : CutState) → IsCutUpTo es from given state → IsCutUpTo es to given state
  cut_quiet given state cut = record {
    behind = cut.behind ∙ sym (behind_same es from to le none);
    has = has_quiet given state.begin state.dropped cut.has;
  }

-- ---- what is known at a place says of all units

-- no start code stands so far behind
pub past_end : (es : List ℕ) (k : ℕ) → length es ≤ k + 3 → is_start_code_at es k ≡ false
past_end es k le = and_left _ _ (le-ltb (k + 3) (length es) le)

all_of : (es : List ℕ) (given : List (ℕ × ℕ)) (begin : Option ℕ) (dropped : ℕ) → HasUnits es (length es) given begin dropped
    → cut_units es ≡ units_with_open dropped given begin (length es)
all_of es given None dropped has = ap (option_map _) has.none
all_of es given (Some begin) dropped has =
    units_are es has.first dropped (given ++ (begin, length es) ∷ []) (sym has.found) has.count
    (sym (has.units [] (length es)) ∙ ap (λ (ks : List ℕ). spans has.first ks (length es)) (append-nil (late_before es has.first (length es))))

pub cut_all : (es : List ℕ) (to : ℕ) (given : List (ℕ × ℕ)) (state : CutState) → to ≡ length es - 3 → IsCutUpTo es to given state
    → cut_units es ≡ units_with_open state.dropped given state.begin (length es)
cut_all es to given state is cut =
    all_of es given state.begin state.dropped (cut_quiet es to (length es) (omega arith) (λ k b u. past_end es k (omega arith)) given state cut).has

none_begin : (units : Option Units) → BeginWith [] units
none_begin None = refl
none_begin (Some units) = (units.cuts, refl)

final_of : (es : List ℕ) (to : ℕ) (given : List (ℕ × ℕ)) (begin : Option ℕ) (dropped : ℕ) → to ≤ length es → HasUnits es to given begin dropped → BeginWith given (cut_units es)
final_of es to given None dropped le has = subst (λ (units : List (ℕ × ℕ)). BeginWith units (cut_units es)) (sym has.given_are) (none_begin (cut_units es))
final_of es to given (Some begin) dropped le has =
    let first = has.first in
    let later : List ℕ = filter (λ at. is_unit_cut es at && nat_lt first at) (places to (length es)) in
    let found : first_sequence es ≡ Some first = ap (find (has_code is_sequence_header es)) (places_split to (length es) le)
    ∙ find-append (has_code is_sequence_header es) (places 0 to) (places to (length es))
    ∙ ap (λ (o : Option ℕ). option_or o (find (has_code is_sequence_header es) (places to (length es)))) has.found in
    let are : cuts_behind es first ≡ late_before es first to ++ later = filter_split (λ at. is_unit_cut es at && nat_lt first at) to (length es) le in
    let units : cut_units es ≡ Some (record { dropped = min (cuts_up_to es first) (2 ^ 32 - 1); cuts = spans first (cuts_behind es first) (length es) }) =
    units_are es first (min (cuts_up_to es first) (2 ^ 32 - 1)) (spans first (cuts_behind es first) (length es)) (sym found) refl refl in
    subst (BeginWith given) (sym units)
    (spans begin later (length es), ap (λ (ks : List ℕ). spans first ks (length es)) are ∙ has.units later (length es))

pub cut_final : (es : List ℕ) (to : ℕ) (given : List (ℕ × ℕ)) (state : CutState) → to ≤ length es → IsCutUpTo es to given state → BeginWith given (cut_units es)
cut_final es to given state le cut = final_of es to given state.begin state.dropped le cut.has
