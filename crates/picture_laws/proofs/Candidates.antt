-- What an element says of bits, by the list of the codes that may stand there.
use Rattle.std.proofs.Common.{◌≡◌, ℕ, ◌⊎◌, ◌&&◌, nat_eq, List, [], ◌∷◌, ◌++◌, length, take, drop, Bool, true, false, refl, sym, ap, subst, ◌∙◌, inl, inr, append_assoc, append-nil, eq-eqb}
use Rattle.std.proofs.lemmas.Bool.{and_parts, and_from, eqb-true, both_ways}
use Rattle.std.proofs.lemmas.List.Folds.{list_all-append}
use Rattle.bit_lists.specs.Bits.{IsPrefix}
use Rattle.bit_lists.proofs.PrefixLemmas.{IsPrefix-split}
use Rattle.bit_lists.proofs.NumberLemmas.{AreBits}
use Rattle.picture_grammar.specs.Refusal.{Refusal}
use Rattle.picture_grammar.specs.Refusal.Refusal.{End}
use Rattle.picture_grammar.specs.Element.{Rule, passes, MayStand, element}
use Rattle.picture_laws.proofs.Answers.{AreBits-behind, Answer, IsRight}
use Rattle.picture_laws.proofs.Answers.Answer.{found, refused}

-- ---- members of a list

abbrev pub In : {X : Type 0} → X → List X → Type 0
In x [] = ⊥
In x (y ∷ ys) = (y ≡ x) ⊎ In x ys

abbrev keep_if : {X : Type 0} → Bool → X → List X → List X
keep_if true x xs = x ∷ xs
keep_if false x xs = xs

-- those that pass a test
abbrev pub kept : {X : Type 0} → (X → Bool) → List X → List X
kept test [] = []
kept test (x ∷ xs) = keep_if (test x) x (kept test xs)

In-keep_if : {X : Type 0} (b : Bool) (x y : X) (ys : List X) → In x (keep_if b y ys) → ((b ≡ true) × (y ≡ x)) ⊎ In x ys
In-keep_if true x y ys (inl e) = inl (refl, e)
In-keep_if true x y ys (inr i) = inr i
In-keep_if false x y ys i = inr i

pub kept-in : {X : Type 0} (test : X → Bool) (x : X) (xs : List X) → In x (kept test xs) → In x xs × (test x ≡ true)
kept-in test x [] i = absurd i
kept-in test x (y ∷ ys) i = elim (In-keep_if (test y) x y (kept test ys) i) [
  | inl p ↦ (inl p.1, ap test (sym p.1) ∙ p.0)
  | inr j ↦ let h = kept-in test x ys j in (inr h.0, h.1)
]

keep_if-in : {X : Type 0} (b : Bool) (x y : X) (ys : List X) → In x ys → In x (keep_if b y ys)
keep_if-in true x y ys i = inr i
keep_if-in false x y ys i = i

keep_if-first : {X : Type 0} (b : Bool) (y : X) (ys : List X) → b ≡ true → In y (keep_if b y ys)
keep_if-first true y ys e = inl refl
keep_if-first false y ys e = absurd (both_ways false refl e)

pub in-kept : {X : Type 0} (test : X → Bool) (x : X) (xs : List X) → In x xs → test x ≡ true → In x (kept test xs)
in-kept test x [] i t = i
in-kept test x (y ∷ ys) (inl e) t = subst (λ z. In z (keep_if (test y) y (kept test ys))) e (keep_if-first (test y) y (kept test ys) (ap test e ∙ t))
in-kept test x (y ∷ ys) (inr i) t = keep_if-in (test y) x y (kept test ys) (in-kept test x ys i t)

-- ---- fronts, as tests

-- one of two lists begins the other
abbrev pub agree : List ℕ → List ℕ → Bool
agree [] ys = true
agree (x ∷ xs) [] = true
agree (x ∷ xs) (y ∷ ys) = nat_eq x y && agree xs ys

abbrev pub begins : List ℕ → List ℕ → Bool
begins [] ys = true
begins (x ∷ xs) [] = false
begins (x ∷ xs) (y ∷ ys) = nat_eq x y && begins xs ys

IsPrefix-more : (x y : ℕ) (xs ys : List ℕ) → x ≡ y → IsPrefix xs ys → IsPrefix (x ∷ xs) (y ∷ ys)
IsPrefix-more x y xs ys e p = cc

pub begins-true : (xs ys : List ℕ) → begins xs ys ≡ true → IsPrefix xs ys
begins-true [] ys e = refl
begins-true (x ∷ xs) [] e = absurd (both_ways false refl e)
begins-true (x ∷ xs) (y ∷ ys) e =
    let parts = and_parts (nat_eq x y) (begins xs ys) e in
    IsPrefix-more x y xs ys (eqb-true x y parts.0) (begins-true xs ys parts.1)

pub begins-from : (xs ys : List ℕ) → IsPrefix xs ys → begins xs ys ≡ true
begins-from [] ys p = refl
begins-from (x ∷ xs) [] p = cc
begins-from (x ∷ xs) (y ∷ ys) p =
    let head : x ≡ y = cc in
    let tail : take (length xs) ys ≡ xs = cc in
    and_from (nat_eq x y) (begins xs ys) (eq-eqb x y head) (begins-from xs ys tail)

abbrev pub Agrees : List ℕ → List ℕ → Type 0
Agrees code bits = IsPrefix code bits ⊎ IsPrefix bits code

pub agree-true : (xs ys : List ℕ) → agree xs ys ≡ true → Agrees xs ys
agree-true [] ys e = inl refl
agree-true (x ∷ xs) [] e = inr refl
agree-true (x ∷ xs) (y ∷ ys) e = by_cases (agree-true xs ys (and_parts (nat_eq x y) (agree xs ys) e).1) where
  head : x ≡ y
  head = eqb-true x y (and_parts (nat_eq x y) (agree xs ys) e).0

  by_cases : Agrees xs ys → Agrees (x ∷ xs) (y ∷ ys)
  by_cases (inl p) = inl (IsPrefix-more x y xs ys head p)
  by_cases (inr p) = inr (IsPrefix-more y x ys xs (sym head) p)

pub agree-from : (xs ys : List ℕ) → Agrees xs ys → agree xs ys ≡ true
agree-from [] ys a = refl
agree-from (x ∷ xs) [] a = refl
agree-from (x ∷ xs) (y ∷ ys) (inl p) =
    let head : x ≡ y = cc in
    let tail : take (length xs) ys ≡ xs = cc in
    and_from (nat_eq x y) (agree xs ys) (eq-eqb x y head) (agree-from xs ys (inl tail))
agree-from (x ∷ xs) (y ∷ ys) (inr p) =
    let head : y ≡ x = cc in
    let tail : take (length ys) xs ≡ ys = cc in
    and_from (nat_eq x y) (agree xs ys) (eq-eqb x y (sym head)) (agree-from xs ys (inr tail))

-- ---- candidates

module _ {A : Type 0} (Codes : A → List ℕ → Type 0) where
  -- the values that pass the rules, each with its code, where one of the code and the bits begins the other
  pub record AreCandidates (rules : List (Rule A)) (bits : List ℕ) (candidates : List (A × List ℕ)) : Type 0 where
    pub sound : (v : A) (c : List ℕ) → In (v, c) candidates → Codes v c × (passes rules v ≡ true) × Agrees c bits
    pub complete : (v : A) (c : List ℕ) → Codes v c → passes rules v ≡ true → Agrees c bits → In (v, c) candidates

  narrowed : (rules : List (Rule A)) (r : Rule A) (bits : List ℕ) (cs : List (A × List ℕ)) → AreCandidates rules bits cs → AreCandidates (rules ++ r ∷ []) bits (kept (λ e. r.test e.0) cs)
  narrowed rules r bits cs are = record {
    sound = λ v c i.
        let k = kept-in (λ (e : A × List ℕ). r.test e.0) (v, c) cs i in
        let s = are.sound v c k.0 in
        (s.0, list_all-append (λ (q : Rule A). q.test v) rules (r ∷ []) ∙ and_from (passes rules v) (r.test v && true) s.1 (and_from (r.test v) true k.1 refl), s.2);
    complete = λ v c coded passing agrees.
        let parts = and_parts (passes rules v) (r.test v && true) (sym (list_all-append (λ (q : Rule A). q.test v) rules (r ∷ [])) ∙ passing) in
        in-kept (λ (e : A × List ℕ). r.test e.0) (v, c) cs (are.complete v c coded parts.0 agrees) (and_parts (r.test v) true parts.1).0;
  }

  -- the first of them whose whole code stands there
  abbrev stand_if : Bool → A → List ℕ → List ℕ → Answer A → Answer A
  stand_if true v c bits other = found v (drop (length c) bits)
  stand_if false v c bits other = other

  abbrev standing : List (A × List ℕ) → List ℕ → Answer A
  standing [] bits = refused End bits
  standing (e ∷ es) bits = stand_if (begins e.1 bits) e.0 e.1 bits (standing es bits)

  -- what it finds is one of them, and where it finds none none stands
  abbrev IsStanding : List (A × List ℕ) → List ℕ → Answer A → Type 0
  IsStanding cs bits (found v rest) = (c : List ℕ) × In (v, c) cs × (bits ≡ c ++ rest)
  IsStanding cs bits (refused r left) = (r ≡ End) × (left ≡ bits) × ((v : A) (c : List ℕ) → In (v, c) cs → IsPrefix c bits → ⊥)

  later : (e : A × List ℕ) (es : List (A × List ℕ)) (bits : List ℕ) (answer : Answer A) → (IsPrefix e.1 bits → ⊥) → IsStanding es bits answer → IsStanding (e ∷ es) bits answer
  later e es bits (found v rest) none (c, i, split) = (c, inr i, split)
  later e es bits (refused r left) none (is, all, others) = (is, all, none_of) where
    none_of : (v : A) (c : List ℕ) → (e ≡ (v, c)) ⊎ In (v, c) es → IsPrefix c bits → ⊥
    none_of v c (inl same) p = none (subst (λ (x : A × List ℕ). IsPrefix x.1 bits) (sym same) p)
    none_of v c (inr i) p = others v c i p

  is-standing : (cs : List (A × List ℕ)) (bits : List ℕ) → IsStanding cs bits (standing cs bits)
  is-standing [] bits = (refl, refl, λ v c i p. i)
  is-standing (e ∷ es) bits = by_test (begins e.1 bits) refl (is-standing es bits) where
    by_test : (b : Bool) → begins e.1 bits ≡ b → IsStanding es bits (standing es bits) → IsStanding (e ∷ es) bits (stand_if b e.0 e.1 bits (standing es bits))
    by_test true t others = (e.1, inl refl, IsPrefix-split e.1 bits (begins-true e.1 bits t))
    by_test false t others = later e es bits (standing es bits) (λ p. both_ways (begins e.1 bits) t (begins-from e.1 bits p)) others

  -- ---- by the rules in order

  abbrev by_rules : List (Rule A) → List (A × List ℕ) → List ℕ → Answer A
  by_rules [] cs bits = standing cs bits
  by_rules (r ∷ rs) cs bits = elim (kept (λ e. r.test e.0) cs) [ [] ↦ refused r.refusal bits | e ∷ es ↦ by_rules rs (e ∷ es) bits ]

  abbrev pub by_candidates : Refusal → List (Rule A) → List (A × List ℕ) → List ℕ → Answer A
  by_candidates none_kind rules [] bits = refused none_kind bits
  by_candidates none_kind rules (e ∷ es) bits = by_rules rules (e ∷ es) bits

  module _ (none_kind : Refusal) (bits : List ℕ) (are_bits : AreBits bits) where
    member : (rules : List (Rule A)) (v : A) (c : List ℕ) (cs : List (A × List ℕ)) → AreCandidates rules bits cs → In (v, c) cs → MayStand Codes rules bits
    member rules v c cs are i =
        let s = are.sound v c i in record { value = v; code = c; coded = s.0; passing = s.1; agrees = s.2 }

    not_any : (rules : List (Rule A)) → AreCandidates rules bits [] → MayStand Codes rules bits → ⊥
    not_any rules are m = are.complete m.value m.code m.coded m.passing m.agrees

    right-standing : (rules : List (Rule A)) (e : A × List ℕ) (es : List (A × List ℕ)) (answer : Answer A) → AreCandidates rules bits (e ∷ es)
        → IsStanding (e ∷ es) bits answer → IsRight (element Codes none_kind rules) bits answer
    right-standing rules e es (found v rest) are (c, i, split) =
        let s = are.sound v c i in ((c, s.0, s.1, split), AreBits-behind c rest (subst AreBits split are_bits))
    right-standing rules e es (refused r left) are (is, all, none) =
        (all, inr (inr (member rules e.0 e.1 (e ∷ es) are (inl refl), (λ s. none s.value s.code (are.complete s.value s.code s.coded s.passing (inl s.first)) s.first), is)))

    right-rules : (before rules : List (Rule A)) (e : A × List ℕ) (es : List (A × List ℕ)) → AreCandidates before bits (e ∷ es)
        → IsRight (element Codes none_kind (before ++ rules)) bits (by_rules rules (e ∷ es) bits)
    right-rules before [] e es are =
        right-standing (before ++ []) e es (standing (e ∷ es) bits) (subst (λ (rs : List (Rule A)). AreCandidates rs bits (e ∷ es)) (sym (append-nil before)) are) (is-standing (e ∷ es) bits)
    right-rules before (r ∷ rs) e es are = by_cases (right-rules (before ++ r ∷ []) rs) (kept (λ (x : A × List ℕ). r.test x.0) (e ∷ es)) refl where
      by_cases : ((k : A × List ℕ) (ks : List (A × List ℕ)) → AreCandidates (before ++ r ∷ []) bits (k ∷ ks)
          → IsRight (element Codes none_kind ((before ++ r ∷ []) ++ rs)) bits (by_rules rs (k ∷ ks) bits))
          → (ks : List (A × List ℕ)) → kept (λ (x : A × List ℕ). r.test x.0) (e ∷ es) ≡ ks
          → IsRight (element Codes none_kind (before ++ r ∷ rs)) bits (elim ks [ [] ↦ refused r.refusal bits | k ∷ ks ↦ by_rules rs (k ∷ ks) bits ])
      by_cases later_rules [] same = (
        refl,
        inr (inl (record {
          before = before;
          broken = r;
          after = rs;
          order = refl;
          so_far = member before e.0 e.1 (e ∷ es) are (inl refl);
          none = not_any (before ++ r ∷ []) (subst (AreCandidates (before ++ r ∷ []) bits) same (narrowed before r bits (e ∷ es) are));
          named = refl;
        })),
      )
      by_cases later_rules (k ∷ ks) same =
          subst (λ (all : List (Rule A)). IsRight (element Codes none_kind all) bits (by_rules rs (k ∷ ks) bits)) (append_assoc before (r ∷ []) rs)
          (later_rules k ks (subst (AreCandidates (before ++ r ∷ []) bits) same (narrowed before r bits (e ∷ es) are)))

    pub right-candidates : (rules : List (Rule A)) (cs : List (A × List ℕ)) → AreCandidates [] bits cs → IsRight (element Codes none_kind rules) bits (by_candidates none_kind rules cs bits)
    right-candidates rules [] are = (refl, inl (not_any [] are, refl))
    right-candidates rules (e ∷ es) are = right-rules [] rules e es are
