-- The units and the number of dropped ones, one cut further.
use Rattle.std.proofs.Common.{◌≡◌, ℕ, suc, Bool, true, false, ◌+◌, ◌-◌, ◌^◌, ◌<◌, ◌≤◌, min, ◌&&◌, List, [], ◌∷◌, ◌++◌, length, filter, Some, nat_lt, nat_le, refl, sym, ap, ◌∙◌, append_assoc, arith}
use Rattle.std.proofs.lemmas.Bool.{and_left, and_right, and_from, le-leb, lt-leb, lt-ltb, le-ltb}
use Rattle.es_units.specs.Units.{places, is_unit_cut, first_sequence, cuts_up_to, cuts_behind, cut_units}
use Rattle.list_types.specs.Spans.{spans}
use Rattle.es_units.proofs.Places.{filter_at, filter_past, filter_none}

abbrev early : List ℕ → ℕ → ℕ → Bool
early es first at = is_unit_cut es at && nat_le at first

abbrev pub late : List ℕ → ℕ → ℕ → Bool
late es first at = is_unit_cut es at && nat_lt first at

-- the next cut from a place on
pub record IsNextCut (es : List ℕ) (from cut : ℕ) : Type 0 where
  pub begun : from ≤ cut
  pub inside : cut < length es
  pub is : is_unit_cut es cut ≡ true
  pub none : (at : ℕ) → from ≤ at → at < cut → is_unit_cut es at ≡ false

pub dropped_more : (es : List ℕ) (first from cut dropped next most total : ℕ) → IsNextCut es from cut → cut ≤ first → next ≡ min (dropped + 1) most
    → min (dropped + length (filter (early es first) (places from (length es)))) most ≡ total
    → min (next + length (filter (early es first) (places (cut + 1) (length es)))) most ≡ total
dropped_more es first from cut dropped next most total found le more before =
    let one : length (filter (early es first) (places from (length es))) ≡ suc (length (filter (early es first) (places (cut + 1) (length es)))) =
    ap length (filter_at (early es first) from cut (length es) found.begun found.inside (λ at b u. and_left _ _ (found.none at b u)) (and_from _ _ found.is (le-leb _ _ le))) in
    omega (arith, one, more, before)

pub dropped_same : (es : List ℕ) (first from cut dropped most total : ℕ) → IsNextCut es from cut → first < cut
    → min (dropped + length (filter (early es first) (places from (length es)))) most ≡ total
    → min (dropped + length (filter (early es first) (places (cut + 1) (length es)))) most ≡ total
dropped_same es first from cut dropped most total found lt before =
    let one : length (filter (early es first) (places from (length es))) ≡ length (filter (early es first) (places (cut + 1) (length es))) =
    ap length (filter_past (early es first) from cut (length es) found.begun found.inside (λ at b u. and_left _ _ (found.none at b u)) (and_right _ _ (lt-leb _ _ lt))) in
    omega (arith, one, before)

pub dropped_all : (es : List ℕ) (first from dropped most total : ℕ) → from ≤ length es → ((at : ℕ) → from ≤ at → is_unit_cut es at ≡ false)
    → dropped ≤ most → min (dropped + length (filter (early es first) (places from (length es)))) most ≡ total → dropped ≡ total
dropped_all es first from dropped most total within none le before =
    let zero : length (filter (early es first) (places from (length es))) ≡ 0 = ap length (filter_none (early es first) from (length es) within (λ at b. and_left _ _ (none at b))) in
    omega (arith, zero, before)

pub spans_same : (es : List ℕ) (first from cut begin : ℕ) (cuts : List (ℕ × ℕ)) (total : List (ℕ × ℕ)) → IsNextCut es from cut → cut ≤ first
    → cuts ++ spans begin (filter (late es first) (places from (length es))) (length es) ≡ total
    → cuts ++ spans begin (filter (late es first) (places (cut + 1) (length es))) (length es) ≡ total
spans_same es first from cut begin cuts total found le before =
    sym (ap (λ (ks : List ℕ). cuts ++ spans begin ks (length es))
    (filter_past (late es first) from cut (length es) found.begun found.inside (λ at b u. and_left _ _ (found.none at b u))
    (and_right _ _ (le-ltb _ _ le)))) ∙ before

pub spans_more : (es : List ℕ) (first from cut begin : ℕ) (cuts : List (ℕ × ℕ)) (total : List (ℕ × ℕ)) → IsNextCut es from cut → first < cut
    → cuts ++ spans begin (filter (late es first) (places from (length es))) (length es) ≡ total
    → (cuts ++ (begin, cut) ∷ []) ++ spans cut (filter (late es first) (places (cut + 1) (length es))) (length es) ≡ total
spans_more es first from cut begin cuts total found lt before =
    append_assoc cuts ((begin, cut) ∷ []) (spans cut (filter (late es first) (places (cut + 1) (length es))) (length es))
    ∙ sym (ap (λ (ks : List ℕ). cuts ++ spans begin ks (length es))
    (filter_at (late es first) from cut (length es) found.begun found.inside (λ at b u. and_left _ _ (found.none at b u))
    (and_from _ _ found.is (lt-ltb _ _ lt)))) ∙ before

pub spans_all : (es : List ℕ) (first from begin : ℕ) (cuts : List (ℕ × ℕ)) (total : List (ℕ × ℕ)) → from ≤ length es
    → ((at : ℕ) → from ≤ at → is_unit_cut es at ≡ false) → cuts ++ spans begin (filter (late es first) (places from (length es))) (length es) ≡ total
    → cuts ++ (begin, length es) ∷ [] ≡ total
spans_all es first from begin cuts total within none before =
    sym (ap (λ (ks : List ℕ). cuts ++ spans begin ks (length es)) (filter_none (late es first) from (length es) within (λ at b. and_left _ _ (none at b)))) ∙ before

pub units_are : (es : List ℕ) (first dropped : ℕ) (cuts : List (ℕ × ℕ)) → Some first ≡ first_sequence es
    → dropped ≡ min (cuts_up_to es first) (2 ^ 32 - 1) → cuts ≡ spans first (cuts_behind es first) (length es)
    → cut_units es ≡ Some (record { dropped = dropped; cuts = cuts })
units_are es first dropped cuts found count are = rw (← found, count, are) refl
