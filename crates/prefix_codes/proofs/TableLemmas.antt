-- No code of a table begins another one, and each symbol has one code.
use Rattle.std.proofs.Common.{◌≡◌, ℕ, ◌≤◌, Bool, true, false, not, ◌&&◌, nat_eq, List, [], ◌∷◌, length, take, Some, slice_get, refl, sym, ap, ap₂, subst, eq-eqb, ◌∙◌, arith, inl, inr}
use Rattle.std.specs.List.{list_all, IsDistinct, AllByRecursion}
use Rattle.std.specs.Cmp.{nat_eq_equiv}
use Rattle.std.specs.Map.{lookup, keys_of}
use Rattle.std.proofs.lemmas.Bool.{and_parts, and_from, eqb-true, cases_Bool, cases_lt, not-true, both_ways}
use Rattle.std.proofs.lemmas.List.{take-take}
use Rattle.std.proofs.lemmas.Map.Entries.{lookup_head, lookup_tail, lookup_from_place, place_from_lookup}
use Rattle.bit_lists.specs.Bits.{IsPrefix}
use Rattle.prefix_codes.specs.Entry.{Entry}
use Rattle.prefix_codes.specs.TableName.{entries, code_in, Begins}
use Rattle.prefix_codes.specs.declared.table_name.TableName.{TableName}
use Rattle.prefix_codes.specs.declared.table_name.TableName.TheVariants.{Address, TypeI, TypeP, TypeB, Pattern, Motion, DcLuma, DcChroma, CoeffZero, CoeffFirst, CoeffOne}
use Rattle.prefix_codes.proofs.Computing.{tables}

-- the first list begins the second
unfoldable pub begins : List ℕ → List ℕ → Bool
begins [] ys = true
begins (x ∷ xs) [] = false
begins (x ∷ xs) (y ∷ ys) = nat_eq x y && begins xs ys

-- two entries have two symbols, and neither code begins the other
abbrev is_apart : Entry → Entry → Bool
is_apart e f = not (nat_eq e.0 f.0) && (not (begins e.1 f.1) && not (begins f.1 e.1))

-- each entry is apart from each later one
unfoldable all_apart : List Entry → Bool
all_apart [] = true
all_apart (e ∷ es) = list_all (is_apart e) es && all_apart es

-- the test, computed for each table
entries_apart : (table : TableName) → all_apart (entries table) ≡ true
unfolding tables all_apart begins
entries_apart Address = refl
entries_apart TypeI = refl
entries_apart TypeP = refl
entries_apart TypeB = refl
entries_apart Pattern = refl
entries_apart Motion = refl
entries_apart DcLuma = refl
entries_apart DcChroma = refl
entries_apart CoeffZero = refl
entries_apart CoeffFirst = refl
entries_apart CoeffOne = refl

-- ---- what the test says of codes

-- a code that begins another one
pub begins_from_IsPrefix : (xs ys : List ℕ) → IsPrefix xs ys → begins xs ys ≡ true
unfolding begins
begins_from_IsPrefix [] ys h = refl
begins_from_IsPrefix (x ∷ xs) [] h = cc
begins_from_IsPrefix (x ∷ xs) (y ∷ ys) h =
    let head : x ≡ y = cc in
    let tail : take (length xs) ys ≡ xs = cc in
    and_from (nat_eq x y) (begins xs ys) (eq-eqb x y head) (begins_from_IsPrefix xs ys tail)

-- what each entry passes, the one passes that is found
passes_from_lookup : (p : Entry → Bool) (s : ℕ) (es : List Entry) (code : List ℕ) → list_all p es ≡ true → lookup (nat_eq s) es ≡ Some code → p (s, code) ≡ true
passes_from_lookup p s [] code all found = cc
passes_from_lookup p s (e ∷ es) code all found =
    let parts = and_parts (p e) (list_all p es) all in
    elim (cases_Bool (nat_eq s e.0)) [
      | inl here ↦
          let same : e.0 ≡ s = sym (eqb-true s e.0 here) in
          let value : Some e.1 ≡ Some code = sym (lookup_head (nat_eq s) e es here) ∙ found in
          let bits : e.1 ≡ code = cc in
          ap₂ (λ (t : ℕ) (bs : List ℕ). p (t, bs)) (sym same) (sym bits) ∙ parts.0
      | inr later ↦ passes_from_lookup p s es code parts.1 (sym (lookup_tail (nat_eq s) e es later) ∙ found)
    ]

-- neither the first code begins a later one, nor a later one the first
no_later_begins : (e : Entry) (es : List Entry) (t : ℕ) (d : List ℕ) → list_all (is_apart e) es ≡ true → lookup (nat_eq t) es ≡ Some d → (IsPrefix e.1 d → ⊥) × (IsPrefix d e.1 → ⊥)
no_later_begins e es t d test other =
    let codes = (and_parts (not (nat_eq e.0 t)) _ (passes_from_lookup (is_apart e) t es d test other)).1 in
    let parts = and_parts (not (begins e.1 d)) (not (begins d e.1)) codes in (
      λ h. both_ways (begins e.1 d) (not-true (begins e.1 d) parts.0) (begins_from_IsPrefix e.1 d h),
      λ h. both_ways (begins d e.1) (not-true (begins d e.1) parts.1) (begins_from_IsPrefix d e.1 h),
    )

-- no code begins that of another symbol
prefix_free_from_test : (es : List Entry) (s t : ℕ) (c d : List ℕ) → all_apart es ≡ true → lookup (nat_eq s) es ≡ Some c → lookup (nat_eq t) es ≡ Some d → IsPrefix c d → s ≡ t
unfolding all_apart
prefix_free_from_test [] s t c d test found other h = cc
prefix_free_from_test (e ∷ es) s t c d test found other h =
    let parts = and_parts (list_all (is_apart e) es) (all_apart es) test in
    let at_head = λ (q : ℕ) (b : List ℕ) (here : nat_eq q e.0 ≡ true) (f : lookup (nat_eq q) (e ∷ es) ≡ Some b).
    (let value : Some b ≡ Some e.1 = sym f ∙ lookup_head (nat_eq q) e es here in let bits : b ≡ e.1 = cc in bits) in
    let in_tail = λ (q : ℕ) (b : List ℕ) (later : nat_eq q e.0 ≡ false) (f : lookup (nat_eq q) (e ∷ es) ≡ Some b).
    sym (lookup_tail (nat_eq q) e es later) ∙ f in
    elim (cases_Bool (nat_eq s e.0)) [
      | inl first ↦ elim (cases_Bool (nat_eq t e.0)) [
        | inl first' ↦ eqb-true s e.0 first ∙ sym (eqb-true t e.0 first')
        | inr later' ↦
            absurd ((no_later_begins e es t d parts.0 (in_tail t d later' other)).0
            (subst (λ b. IsPrefix b d) (at_head s c first found) h))
      ]
      | inr later ↦ elim (cases_Bool (nat_eq t e.0)) [
        | inl first' ↦
            absurd ((no_later_begins e es s c parts.0 (in_tail s c later found)).1
            (subst (λ b. IsPrefix c b) (at_head t d first' other) h))
        | inr later' ↦ prefix_free_from_test es s t c d parts.1 (in_tail s c later found) (in_tail t d later' other) h
      ]
    ]

-- ---- what it says of symbols

no_later_symbol : (e : Entry) (es : List Entry) → list_all (is_apart e) es ≡ true → AllByRecursion (λ k. nat_eq e.0 k ≡ false) (keys_of es)
no_later_symbol e [] test = tt
no_later_symbol e (f ∷ es) test =
    let parts = and_parts (is_apart e f) (list_all (is_apart e) es) test in
    (not-true (nat_eq e.0 f.0) (and_parts (not (nat_eq e.0 f.0)) _ parts.0).0, no_later_symbol e es parts.1)

distinct_from_test : (es : List Entry) → all_apart es ≡ true → IsDistinct nat_eq (keys_of es)
unfolding all_apart IsDistinct
distinct_from_test [] test = tt
distinct_from_test (e ∷ es) test =
    let parts = and_parts (list_all (is_apart e) es) (all_apart es) test in
    (no_later_symbol e es parts.0, distinct_from_test es parts.1)

-- ---- the rules for tables

-- No code of a table begins the code of another symbol.
pub prefix_free : (table : TableName) (s t : ℕ) (c d : List ℕ) → code_in table s ≡ Some c → code_in table t ≡ Some d → IsPrefix c d → s ≡ t
unfolding code_in
prefix_free table s t c d = prefix_free_from_test (entries table) s t c d (entries_apart table)

-- Each entry has the code of its symbol.
pub code_in-entry : (table : TableName) (i : ℕ) (e : Entry) → slice_get (entries table) i ≡ Some e → code_in table e.0 ≡ Some e.1
unfolding code_in
code_in-entry table i e at =
    lookup_from_place nat_eq_equiv (entries table) i e.0 e.1 (distinct_from_test (entries table) (entries_apart table)) at

-- A code of a table stands among its entries.
pub entry-code_in : (table : TableName) (s : ℕ) (c : List ℕ) → code_in table s ≡ Some c → (i : ℕ) × (slice_get (entries table) i ≡ Some (s, c))
unfolding code_in
entry-code_in table s c found =
    let place = place_from_lookup (nat_eq s) (entries table) c found in
    (place.0, place.2 ∙ ap (λ k. Some (k, c)) (sym (eqb-true s place.1 place.3)))

-- What each entry of a table passes, each symbol with its code passes: a test that a caller computes.
pub code_in-passes : (p : Entry → Bool) (table : TableName) (s : ℕ) (c : List ℕ) → list_all p (entries table) ≡ true → code_in table s ≡ Some c → p (s, c) ≡ true
unfolding code_in
code_in-passes p table s c = passes_from_lookup p s (entries table) c

-- The code at the front of some bits is the only one.
pub Begins-same : (table : TableName) (bits : List ℕ) (s t m n : ℕ) → Begins table bits s m → Begins table bits t n → (s ≡ t) × (m ≡ n)
Begins-same table bits s t m n a b =
    let shorter : (c d : List ℕ) → length c ≤ length d → IsPrefix c bits → IsPrefix d bits → IsPrefix c d =
    λ c d le p q. ap (take (length c)) (sym q) ∙ take-take (length c) (length d) bits le ∙ p in
    let symbol : s ≡ t = elim (cases_lt (length b.code) (length a.code)) [
      | inl lt ↦ sym (prefix_free table t s b.code a.code b.listed a.listed (shorter b.code a.code (omega arith) b.first a.first))
      | inr le ↦ prefix_free table s t a.code b.code a.listed b.listed (shorter a.code b.code le a.first b.first)
    ] in
    let codes : Some a.code ≡ Some b.code = sym a.listed ∙ ap (code_in table) symbol ∙ b.listed in
    let code : a.code ≡ b.code = cc in
    (symbol, sym a.counted ∙ ap length code ∙ b.counted)
