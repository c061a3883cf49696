-- The bytes that a cutter keeps.
use Rattle.std.proofs.Common.{◌≡◌, ℕ, suc, ◌+◌, ◌-◌, ◌<◌, ◌≤◌, Bool, true, false, List, [], ◌∷◌, ◌++◌, length, get_or, take, drop, Option, Some, None, IfSome, is_some, if◌then◌else◌, eqb, ltb, ◌&&◌, refl, sym, ap, ◌∙◌, inl, inr, arith}
use Rattle.std.proofs.lemmas.Bool.{cases_lt, and_parts, eqb-true}
use Rattle.std.proofs.lemmas.List.{length-take, take_all, take-take, take-append-le, take-append-drop, take_at, drop_all, drop_more, drop-append-le}
use Rattle.es_units.specs.StartCodes.{is_start_code_at, start_code_at, is_sequence_header}
use Rattle.es_units.specs.UnitCutter.{ended_from, front_from, KeepsEnded}
use Rattle.es_units.specs.Private.CutState.{begin_by, kept_behind, kept_passed}
use Rattle.es_units.proofs.Codes.{code_stands}
use Rattle.list_types.proofs.Lists.{take_behind}

-- ---- fronts of lists

pub take_either : (m n : ℕ) (xs : List ℕ) → take m (take n xs) ≡ take n (take m xs)
take_either m n xs = elim (cases_lt m n) [
  | inl less ↦ take-take m n xs (omega arith) ∙ sym (take_all n (take m xs) (omega (arith, length-take m xs)))
  | inr more ↦ take_all m (take n xs) (omega (arith, length-take n xs)) ∙ sym (take-take n m xs more)
]

pub take_sum : (m n : ℕ) (xs : List ℕ) → m ≤ length xs → take m xs ++ take n (drop m xs) ≡ take (m + n) xs
take_sum m n xs within =
    let size : length (take m xs) ≡ m = omega (arith, length-take m xs) in
    sym (
    ap (take (m + n)) (sym (take-append-drop m xs)) ∙ sum (take m xs) (drop m xs) m n size
    )
  where
    sum : (ys zs : List ℕ) (m n : ℕ) → length ys ≡ m → take (m + n) (ys ++ zs) ≡ ys ++ take n zs
    sum ys zs m n size = rw (← size) (by_list ys zs n)
      where
        by_list : (ys zs : List ℕ) (n : ℕ) → take (length ys + n) (ys ++ zs) ≡ ys ++ take n zs
        by_list [] zs n = let e : 0 + n ≡ n = omega arith in ap (λ (k : ℕ). take k zs) e
        by_list (y ∷ ys) zs n =
            let e : length (y ∷ ys) + n ≡ suc (length ys + n) = omega arith in
            ap (λ (k : ℕ). take k (y ∷ ys ++ zs)) e ∙ ap (λ (xs : List ℕ). y ∷ xs) (by_list ys zs n)

-- ---- behind more bytes

pub kept_more : (most : ℕ) (es xs : List ℕ) (begin : Option ℕ) → IfSome begin (λ place. place ≤ length es)
    → kept_behind most begin (front_from most es begin) xs ≡ front_from most (es ++ xs) begin
kept_more most es xs None within = refl
kept_more most es xs (Some begin) within = take_behind most (drop begin es) xs ∙ ap (take most) (sym (drop-append-le begin es xs within))

pub kept_few : (most : ℕ) (es : List ℕ) (begin : Option ℕ) → length (front_from most es begin) ≤ most
kept_few most es None = omega arith
kept_few most es (Some begin) = omega (arith, length-take most (drop begin es))

-- ---- behind a start code

-- the stream's last four bytes are the start code
pub code_bytes : (es : List ℕ) (at value : ℕ) → start_code_at es at ≡ Some value → length es ≡ at + 4 → drop at es ≡ 0 ∷ 0 ∷ 1 ∷ value ∷ []
code_bytes es at value code size =
    let stands : (is_start_code_at es at ≡ true) × (value ≡ get_or es (at + 3) 0) = code_stands es at value code in
    let zeros : Bool = eqb (get_or es (at + 1) 0) 0 && eqb (get_or es (at + 2) 0) 1 in
    let first : (eqb (get_or es at 0) 0 ≡ true) × (zeros ≡ true) = and_parts (eqb (get_or es at 0) 0) zeros (and_parts (ltb (at + 3) (length es)) (eqb (get_or es at 0) 0 && zeros) stands.0).1 in
    let second : (eqb (get_or es (at + 1) 0) 0 ≡ true) × (eqb (get_or es (at + 2) 0) 1 ≡ true) = and_parts (eqb (get_or es (at + 1) 0) 0) (eqb (get_or es (at + 2) 0) 1) first.1 in
    bytes_are es at value size (eqb-true _ _ first.0) (eqb-true _ _ second.0) (eqb-true _ _ second.1) stands.1
  where
    bytes_are : (es : List ℕ) (at value : ℕ) → length es ≡ at + 4 → get_or es at 0 ≡ 0 → get_or es (at + 1) 0 ≡ 0 → get_or es (at + 2) 0 ≡ 1 → value ≡ get_or es (at + 3) 0
        → drop at es ≡ 0 ∷ 0 ∷ 1 ∷ value ∷ []
    bytes_are es at value size a b c d =
        let two : (at + 1) + 1 ≡ at + 2 = omega arith in
        let three : (at + 2) + 1 ≡ at + 3 = omega arith in
        let inside : at < length es = omega (arith, size) in
        let inside_one : at + 1 < length es = omega (arith, size) in
        let inside_two : at + 2 < length es = omega (arith, size) in
        let inside_three : at + 3 < length es = omega (arith, size) in
        let end : length es ≤ at + 3 + 1 = omega (arith, size) in
        drop_more es at 0 inside
        ∙ rw (a, drop_more es (at + 1) 0 inside_one, b, two, drop_more es (at + 2) 0 inside_two, c, three, drop_more es (at + 3) 0 inside_three, drop_all (at + 3 + 1) es end, d) refl

module _ (most : ℕ) (es : List ℕ) (at value : ℕ) (given : List (ℕ × ℕ)) (room : 4 ≤ most) (code : drop at es ≡ 0 ∷ 0 ∷ 1 ∷ value ∷ []) where
  start_kept : 0 ∷ 0 ∷ 1 ∷ value ∷ [] ≡ take most (drop at es)
  start_kept = sym (take_all most (drop at es) (omega (arith, ap length code, room)) ∙ code)

  -- what is kept of the unit that a start code ends, and of the one that it begins
  pub record IsKept (begin : Option ℕ) (ended : Option ℕ) (kept start : List ℕ) : Type 0 where
    pub opened : (if is_some ended then start else kept) ≡ front_from most es begin
    pub keeps : KeepsEnded most es (given ++ ended_from ended begin) ended begin kept

  kept_ahead : (is_first : Bool) → IsKept (if is_first then Some at else None) None
      (kept_passed None at None (if is_first then Some at else None) [] (0 ∷ 0 ∷ 1 ∷ value ∷ [])) (0 ∷ 0 ∷ 1 ∷ value ∷ [])
  kept_ahead true = record { opened = start_kept; keeps = tt }
  kept_ahead false = record { opened = refl; keeps = tt }

  kept_begun : (begin : ℕ) (is_cut : Bool) → IsKept (if is_cut then Some at else Some begin) (if is_cut then Some begin else None)
      (kept_passed (if is_cut then Some begin else None) at (Some begin) (if is_cut then Some at else Some begin) (take most (drop begin es)) (0 ∷ 0 ∷ 1 ∷ value ∷ []))
      (0 ∷ 0 ∷ 1 ∷ value ∷ [])
  kept_begun begin true = record { opened = start_kept; keeps = ((given, refl), take_either (at - begin) most (drop begin es)) }
  kept_begun begin false = record { opened = refl; keeps = tt }

  pub kept_behind_code : (begin : Option ℕ) (is_cut : Bool) → IsKept (begin_by begin is_cut at value) (if is_cut then begin else None)
      (kept_passed (if is_cut then begin else None) at begin (begin_by begin is_cut at value) (front_from most es begin) (0 ∷ 0 ∷ 1 ∷ value ∷ [])) (0 ∷ 0 ∷ 1 ∷ value ∷ [])
  kept_behind_code None true = kept_ahead (is_sequence_header value)
  kept_behind_code None false = kept_ahead (is_sequence_header value)
  kept_behind_code (Some begin) is_cut = kept_begun begin is_cut
