-- The packets, ids and streams of elements, one element further.
use Rattle.std.proofs.Common.{◌≡◌, ℕ, zero, suc, ◌+◌, ◌==◌, Bool, true, false, cond, ◌||◌, List, [], ◌∷◌, ◌++◌, length, slice_get, Some, length-append, append_assoc, refl, sym, ap, ◌∙◌, subst, arith}
use Rattle.std.proofs.lemmas.Bool.{or_parts}
use Rattle.std.proofs.lemmas.Bool.Decides.{nat_tests}
use Rattle.std.proofs.lemmas.List.{append-nil, map-append}
use Rattle.std.proofs.lemmas.List.Concat.{flat_map-append}
use Rattle.std.proofs.lemmas.List.Elements.{filter-append}
use Rattle.std.proofs.lemmas.List.Folds.{list_any-append}
use Rattle.std.specs.List.{filter}
use Rattle.ts_demux.specs.declared.demuxed.PesUnit.{PesUnit}
use Rattle.ts_demux.specs.Streams.{is_among}
use Rattle.program_stream.specs.Elements.{Element, element_bytes, element_spelling, all_spelled}
use Rattle.program_stream.specs.Streams.{packets_from, packets_of, ids_of, first_coming}
use Rattle.program_stream.specs.Private.Walks.{with_id}

-- ---- numbers that are one

pub same_number : (m n : ℕ) → (m == n) ≡ true → m ≡ n
same_number m n is = grind (arith, nat_tests)

pub equal_test : (n : ℕ) → (n == n) ≡ true
equal_test n = grind (arith, nat_tests)

-- ---- bytes

pub all_spelled-more : (elements : List Element) (element : Element) → all_spelled (elements ++ element ∷ []) ≡ all_spelled elements ++ element_spelling element
all_spelled-more elements element = flat_map-append element_spelling elements (element ∷ []) ∙ ap (λ (xs : List ℕ). all_spelled elements ++ xs) (append-nil (element_spelling element))

-- ---- packets

put_first : (is : Bool) (unit : PesUnit) (longer units more : List PesUnit) → longer ≡ units ++ more → cond is (unit ∷ longer) longer ≡ cond is (unit ∷ units) units ++ more
put_first true unit longer units more same = ap (λ (xs : List PesUnit). unit ∷ xs) same
put_first false unit longer units more same = same

packets_from-more : (at id : ℕ) (elements : List Element) (element : Element) →
    packets_from at id (elements ++ element ∷ []) ≡ packets_from at id elements ++ packets_from (at + length (all_spelled elements)) id (element ∷ [])
packets_from-more at id [] element = ap (λ (n : ℕ). packets_from n id (element ∷ [])) (omega arith)
packets_from-more at id (x ∷ elements) element =
    let place : (at + length (element_spelling x)) + length (all_spelled elements) ≡ at + length (all_spelled (x ∷ elements)) = omega (arith, length-append (element_spelling x) (all_spelled elements)) in
    put_first (x.id == id) (record { at = at + x.zeros; bytes = element_bytes x }) (packets_from (at + length (element_spelling x)) id (elements ++ element ∷ [])) (packets_from (at + length (element_spelling x)) id elements)
    (packets_from (at + length (all_spelled (x ∷ elements))) id (element ∷ []))
    (packets_from-more (at + length (element_spelling x)) id elements element ∙ ap (λ (n : ℕ). packets_from (at + length (element_spelling x)) id elements ++ packets_from n id (element ∷ [])) place)

packets_of-more : (id : ℕ) (elements : List Element) (element : Element) → packets_of (elements ++ element ∷ []) id ≡ packets_of elements id ++ packets_from (length (all_spelled elements)) id (element ∷ [])
packets_of-more id elements element = packets_from-more 0 id elements element ∙ ap (λ (n : ℕ). packets_of elements id ++ packets_from n id (element ∷ [])) (omega arith)

-- the element's own stream gets its packet
pub packets_of-own : (elements : List Element) (element : Element) (at : ℕ) → at ≡ length (all_spelled elements) + element.zeros →
    packets_of (elements ++ element ∷ []) element.id ≡ packets_of elements element.id ++ record { at = at; bytes = element_bytes element } ∷ []
packets_of-own elements element at is =
    packets_of-more element.id elements element
    ∙ ap (λ (b : Bool). packets_of elements element.id ++ cond b (record { at = length (all_spelled elements) + element.zeros; bytes = element_bytes element } ∷ []) []) (equal_test element.id)
    ∙ ap (λ (n : ℕ). packets_of elements element.id ++ record { at = n; bytes = element_bytes element } ∷ []) (sym is)

-- the others stay as they were
pub packets_of-other : (elements : List Element) (element : Element) (id : ℕ) → (element.id == id) ≡ false → packets_of (elements ++ element ∷ []) id ≡ packets_of elements id
packets_of-other elements element id is =
    packets_of-more id elements element
    ∙ ap (λ (b : Bool). packets_of elements id ++ cond b (record { at = length (all_spelled elements) + element.zeros; bytes = element_bytes element } ∷ []) []) is
    ∙ append-nil (packets_of elements id)

-- no packets of an id that doesn't come
packets_from-none : (at id : ℕ) (elements : List Element) → is_among (ids_of elements) id ≡ false → packets_from at id elements ≡ []
packets_from-none at id [] none = refl
packets_from-none at id (x ∷ elements) none =
    let parts = or_parts (x.id == id) (is_among (ids_of elements) id) none in
    ap (λ (b : Bool). cond b (record { at = at + x.zeros; bytes = element_bytes x } ∷ packets_from (at + length (element_spelling x)) id elements) (packets_from (at + length (element_spelling x)) id elements)) parts.0
    ∙ packets_from-none (at + length (element_spelling x)) id elements parts.1

pub packets_of-none : (elements : List Element) (id : ℕ) → is_among (ids_of elements) id ≡ false → packets_of elements id ≡ []
packets_of-none elements id none = packets_from-none 0 id elements none

-- ---- ids

pub ids_of-more : (elements : List Element) (element : Element) → ids_of (elements ++ element ∷ []) ≡ ids_of elements ++ element.id ∷ []
ids_of-more elements element = map-append (λ (e : Element). e.id) elements (element ∷ [])

pub not_true : (b : Bool) → (b ≡ true → ⊥) → b ≡ false
not_true true never = absurd (never refl)
not_true false never = refl

-- what isn't among some is none of them
pub not_same : (ids : List ℕ) (x y : ℕ) → is_among ids x ≡ false → is_among ids y ≡ true → (x == y) ≡ false
not_same ids x y none some = not_true (x == y) (λ same. (let is : x ≡ y = same_number x y same in let both : is_among ids y ≡ false = subst (λ (n : ℕ). is_among ids n ≡ false) is none in absurd cc))

pub among_at : (ids : List ℕ) (k x : ℕ) → slice_get ids k ≡ Some x → is_among ids x ≡ true
among_at [] k x there = absurd cc
among_at (y ∷ ids) zero x there = let same : y ≡ x = cc in rw same (ap (λ (b : Bool). b || is_among ids x) (equal_test x))
among_at (y ∷ ids) (suc k) x there = or_true (y == x) (among_at ids k x there)
  where
    or_true : (b : Bool) {c : Bool} → c ≡ true → (b || c) ≡ true
    or_true true is = refl
    or_true false is = is

-- ---- in order of first coming

first_coming-more : (before ids : List ℕ) (x : ℕ) →
    first_coming before (ids ++ x ∷ []) ≡ first_coming before ids ++ cond (is_among (before ++ first_coming before ids) x) [] (x ∷ [])
first_coming-more before [] x = ap (λ (xs : List ℕ). cond (is_among xs x) [] (x ∷ [])) (sym (append-nil before))
first_coming-more before (y ∷ ids) x = by_test (is_among before y) (first_coming-more before ids x) (first_coming-more (before ++ y ∷ []) ids x)
  where
    by_test : (is : Bool) → first_coming before (ids ++ x ∷ []) ≡ first_coming before ids ++ cond (is_among (before ++ first_coming before ids) x) [] (x ∷ []) →
        first_coming (before ++ y ∷ []) (ids ++ x ∷ []) ≡ first_coming (before ++ y ∷ []) ids ++ cond (is_among ((before ++ y ∷ []) ++ first_coming (before ++ y ∷ []) ids) x) [] (x ∷ []) →
        cond is (first_coming before (ids ++ x ∷ [])) (y ∷ first_coming (before ++ y ∷ []) (ids ++ x ∷ []))
        ≡ cond is (first_coming before ids) (y ∷ first_coming (before ++ y ∷ []) ids)
        ++ cond (is_among (before ++ cond is (first_coming before ids) (y ∷ first_coming (before ++ y ∷ []) ids)) x) [] (x ∷ [])
    by_test true same behind = same
    by_test false same behind =
        ap (λ (xs : List ℕ). y ∷ xs) (behind ∙ ap (λ (xs : List ℕ). first_coming (before ++ y ∷ []) ids ++ cond (is_among xs x) [] (x ∷ [])) (append_assoc before (y ∷ []) (first_coming (before ++ y ∷ []) ids)))

pub first_coming-id : (ids : List ℕ) (x : ℕ) → first_coming [] (ids ++ x ∷ []) ≡ with_id (first_coming [] ids) x
first_coming-id ids x = first_coming-more [] ids x ∙ either (is_among (first_coming [] ids) x)
  where
    either : (is : Bool) → first_coming [] ids ++ cond is [] (x ∷ []) ≡ cond is (first_coming [] ids) (first_coming [] ids ++ x ∷ [])
    either true = append-nil (first_coming [] ids)
    either false = refl

-- an id that isn't among those that came first doesn't come
pub first_coming-none : (before ids : List ℕ) (x : ℕ) → is_among before x ≡ false → is_among (first_coming before ids) x ≡ false → is_among ids x ≡ false
first_coming-none before [] x not_before none = refl
first_coming-none before (y ∷ ids) x not_before none =
    by_test (λ there. first_coming-none before ids x not_before there) (λ longer there. first_coming-none (before ++ y ∷ []) ids x longer there) (is_among before y) refl none
  where
    by_test : (is_among (first_coming before ids) x ≡ false → is_among ids x ≡ false) →
        (is_among (before ++ y ∷ []) x ≡ false → is_among (first_coming (before ++ y ∷ []) ids) x ≡ false → is_among ids x ≡ false) → (is : Bool) → is_among before y ≡ is → is_among (cond is (first_coming before ids) (y ∷ first_coming (before ++ y ∷ []) ids)) x ≡ false → is_among (y ∷ ids) x ≡ false
    by_test same_before longer_before true is none =
        let other : (y == x) ≡ false = not_true (y == x) (λ same. (let one : y ≡ x = same_number y x same in let both : is_among before x ≡ true = subst (λ (n : ℕ). is_among before n ≡ true) one is in absurd cc)) in
        ap (λ (b : Bool). b || is_among ids x) other ∙ same_before none
    by_test same_before longer_before false is none =
        let parts = or_parts (y == x) (is_among (first_coming (before ++ y ∷ []) ids) x) none in
        let longer : is_among (before ++ y ∷ []) x ≡ false =
        list_any-append (λ (n : ℕ). n == x) before (y ∷ []) ∙ ap (λ (b : Bool). b || is_among (y ∷ []) x) not_before ∙ ap (λ (b : Bool). b || false) parts.0 in
        ap (λ (b : Bool). b || is_among ids x) parts.0 ∙ longer_before longer parts.1

-- nothing that isn't among some is among those of them that came first
pub first_coming-within : (before ids : List ℕ) (x : ℕ) → is_among ids x ≡ false → is_among (first_coming before ids) x ≡ false
first_coming-within before [] x none = refl
first_coming-within before (y ∷ ids) x none =
    let parts = or_parts (y == x) (is_among ids x) none in
    by_test (is_among before y) (first_coming-within before ids x parts.1) (ap (λ (b : Bool). b || is_among (first_coming (before ++ y ∷ []) ids) x) parts.0 ∙ first_coming-within (before ++ y ∷ []) ids x parts.1)
  where
    by_test : (is : Bool) → is_among (first_coming before ids) x ≡ false → is_among (y ∷ first_coming (before ++ y ∷ []) ids) x ≡ false →
        is_among (cond is (first_coming before ids) (y ∷ first_coming (before ++ y ∷ []) ids)) x ≡ false
    by_test true one other = one
    by_test false one other = other

-- ---- filtered

pub filter-more : (p : ℕ → Bool) (ids : List ℕ) (x : ℕ) (is : Bool) → p x ≡ is → filter p (ids ++ x ∷ []) ≡ filter p ids ++ cond is (x ∷ []) []
filter-more p ids x is test = filter-append p ids (x ∷ []) ∙ ap (λ (b : Bool). filter p ids ++ cond b (x ∷ []) []) test

-- an id that passes and isn't among those that do isn't there
pub filter-none : (p : ℕ → Bool) (ids : List ℕ) (x : ℕ) → p x ≡ true → is_among (filter p ids) x ≡ false → is_among ids x ≡ false
filter-none p [] x passes none = refl
filter-none p (y ∷ ids) x passes none = by_test (λ there. filter-none p ids x passes there) (p y) refl none
  where
    by_test : (is_among (filter p ids) x ≡ false → is_among ids x ≡ false) → (is : Bool) → p y ≡ is → is_among (cond is (y ∷ filter p ids) (filter p ids)) x ≡ false → is_among (y ∷ ids) x ≡ false
    by_test others true is none =
        let parts = or_parts (y == x) (is_among (filter p ids) x) none in
        ap (λ (b : Bool). b || is_among ids x) parts.0 ∙ others parts.1
    by_test others false is none =
        let other : (y == x) ≡ false = not_true (y == x) (λ same. (let one : y ≡ x = same_number y x same in let both : p x ≡ false = subst (λ (n : ℕ). p n ≡ false) one is in absurd cc)) in
        ap (λ (b : Bool). b || is_among ids x) other ∙ others none

-- one that doesn't pass isn't among those that do
pub filter-within : (p : ℕ → Bool) (ids : List ℕ) (x : ℕ) → p x ≡ false → is_among (filter p ids) x ≡ false
filter-within p [] x fails = refl
filter-within p (y ∷ ids) x fails = by_test (filter-within p ids x fails) (p y) refl
  where
    by_test : is_among (filter p ids) x ≡ false → (is : Bool) → p y ≡ is → is_among (cond is (y ∷ filter p ids) (filter p ids)) x ≡ false
    by_test others true is =
        let other : (y == x) ≡ false = not_true (y == x) (λ same. (let one : y ≡ x = same_number y x same in let both : p x ≡ true = subst (λ (n : ℕ). p n ≡ true) one is in absurd cc)) in
        ap (λ (b : Bool). b || is_among (filter p ids) x) other ∙ others
    by_test others false is = others
