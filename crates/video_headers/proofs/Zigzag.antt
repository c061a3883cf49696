-- Places of the zigzag scan and raster indices.
use Rattle.std.proofs.Common.{◌≡◌, ◌<◌, ◌+◌, ◌==◌, ◌&&◌, ℕ, List, length, get_or, set, nat_lt, nat_eq, unwrap_or, position, Bool, true, refl, sym, ap, ◌∙◌, inl, inr, arith}
use Rattle.std.specs.List.{list_all, range_with_len}
use Rattle.std.proofs.lemmas.Bool.{and_parts, eqb-true, ltb-true, cases_Bool, both_ways, cases_eq}
use Rattle.std.proofs.lemmas.List.Folds.{list_all_at}
use Rattle.std.proofs.lemmas.List.{ext_get_or, get_or-set_other}
use Rattle.std.proofs.lemmas.Grind.{get_or-set_at}
use Rattle.std.proofs.lemmas.List.FromFn.{length-range_with_len}
use Rattle.std.proofs.lemmas.List.FromFn.{get_or-map-range_with_len, get_or-range_with_len}
use Rattle.quant_math.specs.Scans.{zigzag_scan}
use Rattle.picture_grammar.specs.Headers.{in_raster_order}

-- the place of a raster index
abbrev pub place_of : ℕ → ℕ
place_of index = unwrap_or (position (λ x. x == index) zigzag_scan) 0

abbrev is_placed : ℕ → Bool
is_placed index = nat_lt (place_of index) 64 && nat_eq (get_or zigzag_scan (place_of index) 0) index && nat_eq (place_of (get_or zigzag_scan index 0)) index && nat_lt (get_or zigzag_scan index 0) 64

all-placed : list_all is_placed (range_with_len 0 64) ≡ true
all-placed = refl

pub record Placed (index : ℕ) : Type 0 where
  pub below : place_of index < 64
  pub back : get_or zigzag_scan (place_of index) 0 ≡ index
  pub again : place_of (get_or zigzag_scan index 0) ≡ index
  pub within : get_or zigzag_scan index 0 < 64

placed-at : (index : ℕ) → index < 64 → is_placed index ≡ true
placed-at index lt = elim (cases_Bool (is_placed index)) [
  | inl is ↦ is
  | inr none ↦ absurd (both_ways (list_all is_placed (range_with_len 0 64))
      (list_all_at is_placed (range_with_len 0 64) index 0 (omega (arith, lt, length-range_with_len 0 64))
      (ap is_placed (get_or-range_with_len 0 64 index 0 lt ∙ (let e : 0 + index ≡ index = omega arith in e)) ∙ none)) all-placed)
]

pub placed : (index : ℕ) → index < 64 → Placed index
placed index lt =
    let a = nat_lt (place_of index) 64 in
    let b = nat_eq (get_or zigzag_scan (place_of index) 0) index in
    let c = nat_eq (place_of (get_or zigzag_scan index 0)) index in
    let d = nat_lt (get_or zigzag_scan index 0) 64 in
    let p = and_parts (a && b && c) d (placed-at index lt) in
    let q = and_parts (a && b) c p.0 in
    let r = and_parts a b q.0 in
    record { below = ltb-true _ _ r.0; back = eqb-true _ _ r.1; again = eqb-true _ _ q.1; within = ltb-true _ _ p.1 }

pub raster : (weights matrix : List ℕ) → length matrix ≡ 64 → ((k : ℕ) → k < 64 → get_or matrix (get_or zigzag_scan k 0) 0 ≡ get_or weights k 0) → matrix ≡ in_raster_order weights
raster weights matrix size are =
    ext_get_or 0 matrix (in_raster_order weights) size (λ i lt.
    let here = placed i (omega (arith, lt, size)) in
    ap (λ (k : ℕ). get_or matrix k 0) (sym here.back) ∙ are (place_of i) here.below
    ∙ sym (get_or-map-range_with_len (λ index. get_or weights (place_of index) 0) 0 64 i i 0 (omega (arith, lt, size)) (omega arith)))

-- one more weight at its raster index
pub raster-more : (weights matrix : List ℕ) (place spot : ℕ) → place < 64 → spot ≡ get_or zigzag_scan place 0 → length matrix ≡ 64
    → ((k : ℕ) → k < place → get_or matrix (get_or zigzag_scan k 0) 0 ≡ get_or weights k 0)
    → (k : ℕ) → k < place + 1 → get_or (set matrix spot (get_or weights place 0)) (get_or zigzag_scan k 0) 0 ≡ get_or weights k 0
raster-more weights matrix place spot lt is size before k below = elim (cases_eq k place) [
  | inl e ↦
      get_or-set_at matrix spot (get_or zigzag_scan k 0) (get_or weights place 0) 0 (ap (λ (i : ℕ). get_or zigzag_scan i 0) e ∙ sym is)
      (let within = (placed place lt).within in omega (arith, within, is, size))
      ∙ ap (λ (i : ℕ). get_or weights i 0) (sym e)
  | inr apart ↦
      let earlier : k < place = omega (arith, below, apart) in
      get_or-set_other matrix spot (get_or zigzag_scan k 0) (get_or weights place 0) 0
      (λ e. apart (sym (placed k (omega (arith, earlier, lt))).again ∙ ap place_of (e ∙ is) ∙ (placed place lt).again)) ∙ before k earlier
]
