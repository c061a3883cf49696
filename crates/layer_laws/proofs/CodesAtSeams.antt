-- Start codes of a unit stand in a stream as they stand in the unit alone.
use Rattle.std.proofs.Common.{◌≡◌, ◌≢◌, ℕ, ◌+◌, ◌<◌, ◌≤◌, nat_lt, Bool, true, false, List, [], ◌∷◌, ◌++◌, length, take, drop, refl, sym, ap, ◌∙◌, arith, inl, inr, length-append, length-drop}
use Rattle.std.specs.Prelude.{slice_index}
use Rattle.std.proofs.Math.ListN.{get_or-append}
use Rattle.std.proofs.lemmas.List.{get_or-append-add, get_or-drop, take-append-drop}
use Rattle.std.proofs.lemmas.Bool.{and_parts, and_left, lt-ltb, le-ltb, ltb-true, eqb-true, cases_lt}
use Rattle.es_units.specs.StartCodes.{is_start_code_at, has_code}
use Rattle.es_units.proofs.Codes.{no_code}

-- ---- tests on places

same_lt : (a b c d : ℕ) → (a < b → c < d) → (b ≤ a → d ≤ c) → nat_lt a b ≡ nat_lt c d
same_lt a b c d low high = elim (cases_lt a b) [
  | inl lt ↦ lt-ltb a b lt ∙ sym (lt-ltb c d (low lt))
  | inr le ↦ le-ltb a b le ∙ sym (le-ltb c d (high le))
]

-- the same four bytes, the same code
pub same_code : (test : ℕ → Bool) (a b : List ℕ) (p q : ℕ) → nat_lt (p + 3) (length a) ≡ nat_lt (q + 3) (length b)
    → slice_index a p ≡ slice_index b q → slice_index a (p + 1) ≡ slice_index b (q + 1) → slice_index a (p + 2) ≡ slice_index b (q + 2) → slice_index a (p + 3) ≡ slice_index b (q + 3)
    → has_code test a p ≡ has_code test b q
same_code test a b p q within first second third value = rw (within, first, second, third, value) refl

-- where a code stands, its bytes stand
pub code_within : (test : ℕ → Bool) (es : List ℕ) (at : ℕ) → has_code test es at ≡ true → is_start_code_at es at ≡ true
code_within test es at is = by_code (is_start_code_at es at) refl
  where
    by_code : (there : Bool) → is_start_code_at es at ≡ there → is_start_code_at es at ≡ true
    by_code true there = there
    by_code false there = absurd (let no : has_code test es at ≡ false = no_code test es at there in let both : true ≡ false = sym is ∙ no in cc)

pub code_inside : (test : ℕ → Bool) (es : List ℕ) (at : ℕ) → has_code test es at ≡ true → at + 3 < length es
code_inside test es at is = ltb-true (at + 3) (length es) (and_parts _ _ (code_within test es at is)).0

-- ---- behind other bytes

pub code_behind : (test : ℕ → Bool) (before es : List ℕ) (p : ℕ) → has_code test (before ++ es) (length before + p) ≡ has_code test es p
code_behind test before es p =
    let at : (k : ℕ) → slice_index (before ++ es) (length before + p + k) ≡ slice_index es (p + k) = λ k.
    ap (slice_index (before ++ es)) (omega arith) ∙ get_or-append-add before es (p + k) 0 in
    same_code test (before ++ es) es (length before + p) p
    (same_lt _ _ _ _ (λ lt. omega (arith, length-append before es)) (λ le. omega (arith, length-append before es)))
    (get_or-append-add before es p 0) (at 1) (at 2) (at 3)

-- ---- before other bytes

three_bytes : (bytes : List ℕ) → length bytes ≡ 3 → slice_index bytes 0 ≡ 0 → slice_index bytes 1 ≡ 0 → slice_index bytes 2 ≡ 1 → bytes ≡ 0x00 ∷ 0x00 ∷ 0x01 ∷ []
three_bytes [] size first second third = absurd (omega arith)
three_bytes (a ∷ []) size first second third = absurd (omega arith)
three_bytes (a ∷ b ∷ []) size first second third = absurd (omega arith)
three_bytes (a ∷ b ∷ c ∷ []) size first second third = rw (first, second, third) refl
three_bytes (a ∷ b ∷ c ∷ d ∷ more) size first second third = absurd (omega arith)

ends_with_prefix : (unit : List ℕ) (p : ℕ) → p + 3 ≡ length unit → slice_index unit p ≡ 0 → slice_index unit (p + 1) ≡ 0 → slice_index unit (p + 2) ≡ 1 → unit ≡ take p unit ++ 0x00 ∷ 0x00 ∷ 0x01 ∷ []
ends_with_prefix unit p size first second third =
    let at : (k : ℕ) → slice_index (drop p unit) k ≡ slice_index unit (p + k) = λ k. get_or-drop p unit k 0 in
    let zero_at : slice_index unit (p + 0) ≡ 0 = ap (slice_index unit) (omega arith) ∙ first in
    sym (take-append-drop p unit)
    ∙ ap (λ (bytes : List ℕ). take p unit ++ bytes)
    (three_bytes (drop p unit) (omega (arith, size, length-drop p unit)) (at 0 ∙ zero_at) (at 1 ∙ second) (at 2 ∙ third))

-- three bytes of a code, taken from a test
pub is_code : (es : List ℕ) (p : ℕ) → is_start_code_at es p ≡ true → (slice_index es p ≡ 0) × (slice_index es (p + 1) ≡ 0) × (slice_index es (p + 2) ≡ 1)
is_code es p there =
    let bytes = and_parts _ _ (and_parts _ _ there).1 in
    let others = and_parts _ _ bytes.1 in
    (eqb-true _ _ bytes.0, eqb-true _ _ others.0, eqb-true _ _ others.1)

-- at a unit's last three bytes no code begins, where 00 00 or nothing follows
no_code_at_seam : (unit rest : List ℕ) (p : ℕ) → ((front : List ℕ) → unit ≢ front ++ 0x00 ∷ 0x00 ∷ 0x01 ∷ []) → slice_index rest 0 ≡ 0 → slice_index rest 1 ≡ 0
    → p < length unit → length unit ≤ p + 3 → is_start_code_at (unit ++ rest) p ≡ false
no_code_at_seam unit rest p no_prefix first second within last = by_code (is_start_code_at (unit ++ rest) p) refl
  where
    at_rest : (i k : ℕ) → i ≡ length unit + k → slice_index (unit ++ rest) i ≡ slice_index rest k
    at_rest i k is = ap (slice_index (unit ++ rest)) is ∙ get_or-append-add unit rest k 0

    in_unit : (i : ℕ) → i < length unit → slice_index (unit ++ rest) i ≡ slice_index unit i
    in_unit i lt = get_or-append unit rest 0 i lt

    whole : (slice_index (unit ++ rest) p ≡ 0) × (slice_index (unit ++ rest) (p + 1) ≡ 0) × (slice_index (unit ++ rest) (p + 2) ≡ 1) → length unit ≤ p + 2 → ⊥
    whole bytes none = elim (cases_lt (p + 1) (length unit)) [
      | inl two ↦ (let same : slice_index (unit ++ rest) (p + 2) ≡ slice_index rest 0 = at_rest (p + 2) 0 (omega arith) in omega (arith, same, first, bytes.2))
      | inr one ↦ (let same : slice_index (unit ++ rest) (p + 2) ≡ slice_index rest 1 = at_rest (p + 2) 1 (omega arith) in omega (arith, same, second, bytes.2))
    ]

    by_code : (there : Bool) → is_start_code_at (unit ++ rest) p ≡ there → is_start_code_at (unit ++ rest) p ≡ false
    by_code false there = there
    by_code true there =
        let bytes = is_code (unit ++ rest) p there in
        absurd (elim (cases_lt (p + 2) (length unit)) [
          | inl three ↦ no_prefix (take p unit)
              (ends_with_prefix unit p (omega arith) (sym (in_unit p within) ∙ bytes.0) (sym (in_unit (p + 1) (omega arith)) ∙ bytes.1) (sym (in_unit (p + 2) three) ∙ bytes.2))
          | inr fewer ↦ whole bytes fewer
        ])

-- where 00 00 or nothing follows a unit that doesn't end with a prefix, its codes stay as they are
pub code_before : (test : ℕ → Bool) (unit rest : List ℕ) (p : ℕ) → ((front : List ℕ) → unit ≢ front ++ 0x00 ∷ 0x00 ∷ 0x01 ∷ []) → slice_index rest 0 ≡ 0 → slice_index rest 1 ≡ 0
    → p < length unit → has_code test (unit ++ rest) p ≡ has_code test unit p
code_before test unit rest p no_prefix first second within = elim (cases_lt (p + 3) (length unit)) [
  | inl inside ↦
      same_code test (unit ++ rest) unit p p (same_lt _ _ _ _ (λ lt. inside) (λ le. omega (arith, length-append unit rest)))
      (get_or-append unit rest 0 p within) (get_or-append unit rest 0 (p + 1) (omega arith)) (get_or-append unit rest 0 (p + 2) (omega arith)) (get_or-append unit rest 0 (p + 3) inside)
  | inr last ↦ no_code test (unit ++ rest) p (no_code_at_seam unit rest p no_prefix first second within last) ∙ sym (no_code test unit p (and_left _ _ (le-ltb _ _ last)))
]
