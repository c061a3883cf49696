-- Numbers within limits: which numbers the bits left may begin, and which limit leaves none of them.
use Rattle.std.proofs.Common.{
  ◌≡◌,
  ℕ,
  ◌+◌,
  ◌-◌,
  ◌*◌,
  ◌/◌,
  ◌%◌,
  ◌^◌,
  ◌<◌,
  ◌≤◌,
  ◌⊎◌,
  nat_le,
  nat_lt,
  max,
  min,
  List,
  [],
  ◌∷◌,
  ◌++◌,
  length,
  take,
  Option,
  Some,
  None,
  Bool,
  true,
  false,
  refl,
  sym,
  ap,
  subst,
  ◌∙◌,
  inl,
  inr,
  arith,
  append_assoc,
  append-nil,
}
use Rattle.std.proofs.lemmas.Bool.{and_parts, and_from, leb-true, le-leb, ltb-true, ltb-false, cases_lt}
use Rattle.std.proofs.lemmas.Nat.{div-mul-add}
use Rattle.std.proofs.Math.Nat.{div-lt_iff_lt-mul, div-add-mod, div-add-mod', mod-lt, mul-le-mul_right}
use Rattle.std.proofs.lemmas.List.{length-take, take_all}
use Rattle.std.proofs.lemmas.Nat.{pow-add, pow_pos}
use Rattle.std.proofs.lemmas.List.Folds.{list_all-append}
use Rattle.bit_lists.specs.Bits.{IsPrefix, bits_of}
use Rattle.bit_lists.proofs.BitLemmas.{length-bits_of, take-bits_of, bits_of-one}
use Rattle.bit_cursor.specs.Shown.{IsWindow}
use Rattle.picture_grammar.specs.Element.{Rule, passes, MayStand, Breaks}
use Rattle.picture_grammar.specs.Headers.{is_from_to}
use Rattle.video_headers.specs.declared.limit.Limit.{Limit}
use Rattle.video_headers.specs.declared.why.Why.{Why}
use Rattle.video_headers.specs.Private.Why.{refusal_of}
use Rattle.video_headers.specs.Private.Limits.{broken_or, first_broken, AreRules}

abbrev pub NumberCode : ℕ → ℕ → List ℕ → Type 0
NumberCode n number code = (number < 2 ^ n) × (code ≡ bits_of n number)

abbrev pub Agrees : ℕ → List ℕ → ℕ → Type 0
Agrees n bits v = IsPrefix (bits_of n v) bits ⊎ IsPrefix bits (bits_of n v)

-- these are the numbers that the bits may begin and that pass the rules so far
pub record AreLeft (n : ℕ) (bits : List ℕ) (before : List (Rule ℕ)) (low high : ℕ) : Type 0 where
  pub some : low ≤ high
  pub below : high < 2 ^ n
  pub inside : (v : ℕ) → v < 2 ^ n → passes before v ≡ true → Agrees n bits v → (low ≤ v) × (v ≤ high)
  pub outside : (v : ℕ) → low ≤ v → v ≤ high → (passes before v ≡ true) × Agrees n bits v

-- ---- parts of equal length

div-below : (v a b : ℕ) → 0 < b → v < a * b → v / b < a
div-below v a b some lt = (div-lt_iff_lt-mul some).1 lt

same-part : (part v number : ℕ) → 0 < part → number % part ≡ 0 → v / part ≡ number / part → (number ≤ v) × (v < number + part)
same-part part v number some filled e =
    let high : part * (v / part) ≡ part * (number / part) = ap (λ (q : ℕ). part * q) e in
    (omega (arith, high, filled, div-add-mod v part, div-add-mod number part), omega (arith, high, filled, div-add-mod v part, div-add-mod number part, mod-lt v some))

part-same : (part v number : ℕ) → 0 < part → number % part ≡ 0 → number ≤ v → v < number + part → v / part ≡ number / part
part-same part v number some filled a b =
    let split : v ≡ number / part * part + (v - number) = omega (arith, a, filled, div-add-mod' number part) in
    ap (λ (k : ℕ). k / part) split ∙ div-mul-add (number / part) part (v - number) (omega (arith, a, b))

last-below : (part whole count number : ℕ) → 0 < part → number % part ≡ 0 → whole ≡ count * part → number < whole → (last : ℕ) → last ≡ number + (part - 1) → last < whole
last-below part whole count number some filled is below last e =
    let q : number / part < count = div-below number count part some (subst (λ (k : ℕ). number < k) is below) in
    let next : (number / part + 1) * part ≤ count * part = mul-le-mul_right part (let le : number / part + 1 ≤ count = omega (arith, q) in le) in
    let grown : (number / part + 1) * part ≡ number / part * part + part = omega arith in
    omega (arith, e, some, is, next, grown, filled, div-add-mod' number part)

module _ (n : ℕ) (bits : List ℕ) where
  -- what is said of the bits, where no limit is broken or one is
  abbrev pub Says : List (Rule ℕ) → Option Why → Type 0
  Says rules None = MayStand (NumberCode n) rules bits
  Says rules (Some why) = Breaks (NumberCode n) rules bits (refusal_of why)

  pub may-stand : (before : List (Rule ℕ)) (low high : ℕ) → AreLeft n bits before low high → MayStand (NumberCode n) before bits
  may-stand before low high are =
      let is = are.outside low (omega arith) are.some in
      record { value = low; code = bits_of n low; coded = (omega (arith, are.some, are.below), refl); passing = is.0; agrees = is.1 }

  last-rule : (before : List (Rule ℕ)) (r : Rule ℕ) (v : ℕ) → passes (before ++ r ∷ []) v ≡ true → (passes before v ≡ true) × (r.test v ≡ true)
  last-rule before r v p =
      let both = and_parts (passes before v) (passes (r ∷ []) v) (sym (list_all-append (λ k. k.test v) before (r ∷ [])) ∙ p) in
      (both.0, (and_parts (r.test v) true both.1).0)

  with-rule : (before : List (Rule ℕ)) (r : Rule ℕ) (v : ℕ) → passes before v ≡ true → r.test v ≡ true → passes (before ++ r ∷ []) v ≡ true
  with-rule before r v p q = list_all-append (λ k. k.test v) before (r ∷ []) ∙ and_from (passes before v) (passes (r ∷ []) v) p (and_from (r.test v) true q refl)

  within : (least most v : ℕ) → is_from_to least most v ≡ true → (least ≤ v) × (v ≤ most)
  within least most v is = let both = and_parts (nat_le least v) (nat_le v most) is in (leb-true least v both.0, leb-true v most both.1)

  is-within : (least most v : ℕ) → least ≤ v → v ≤ most → is_from_to least most v ≡ true
  is-within least most v a b = and_from (nat_le least v) (nat_le v most) (le-leb least v a) (le-leb v most b)

  pub limited : (before rules : List (Rule ℕ)) (limits : List Limit) (low high : ℕ) → AreLeft n bits before low high → AreRules n limits rules → Says (before ++ rules) (first_broken low high limits)
  limited before [] [] low high are is = subst (λ (rs : List (Rule ℕ)). Says rs None) (sym (append-nil before)) (may-stand before low high are)
  limited before (r ∷ rs) [] low high are is = absurd is
  limited before [] (l ∷ ls) low high are is = absurd is
  limited before (r ∷ rs) (l ∷ ls) low high are (kind, test, is) = by_test (limited (before ++ r ∷ []) rs ls (max low l.least) (min high l.most))
      (nat_lt (min high l.most) (max low l.least)) refl where
        by_test : (AreLeft n bits (before ++ r ∷ []) (max low l.least) (min high l.most) → AreRules n ls rs → Says ((before ++ r ∷ []) ++ rs) (first_broken (max low l.least) (min high l.most) ls))
            → (b : Bool) → nat_lt (min high l.most) (max low l.least) ≡ b → Says (before ++ r ∷ rs) (broken_or b l.otherwise (first_broken (max low l.least) (min high l.most) ls))
        by_test later true e = record {
          before = before;
          broken = r;
          after = rs;
          order = refl;
          so_far = may-stand before low high are;
          none = λ m.
              let both = last-rule before r m.value m.passing in
              let agrees : Agrees n bits m.value = subst (λ (c : List ℕ). IsPrefix c bits ⊎ IsPrefix bits c) m.coded.1 m.agrees in
              let inside = are.inside m.value m.coded.0 both.0 agrees in
              let limit = within l.least l.most m.value (sym (test m.value m.coded.0) ∙ both.1) in
              let lt = ltb-true (min high l.most) (max low l.least) e in
              omega (arith, inside.0, inside.1, limit.0, limit.1, lt);
          named = sym kind;
        }
        by_test later false e =
            let ge = ltb-false (min high l.most) (max low l.least) e in
            subst (λ (xs : List (Rule ℕ)). Says xs (first_broken (max low l.least) (min high l.most) ls)) (append_assoc before (r ∷ []) rs)
            (later (record {
              some = omega (arith, ge);
              below = let b = are.below in omega (arith, b);
              inside = λ v lt p agrees.
                  let both = last-rule before r v p in
                  let inside = are.inside v lt both.0 agrees in
                  let limit = within l.least l.most v (sym (test v lt) ∙ both.1) in
                  (omega (arith, inside.0, limit.0), omega (arith, inside.1, limit.1));
              outside = λ v a b.
                  let is = are.outside v (omega (arith, a)) (omega (arith, b)) in
                  let high_below = are.below in
                  let lt : v < 2 ^ n = omega (arith, b, high_below) in
                  (with-rule before r v is.0 (test v lt ∙ is-within l.least l.most v (omega (arith, a)) (omega (arith, b))), is.1);
            }) is)

-- ---- what a window shows

module _ (n : ℕ) (bits : List ℕ) (number known last : ℕ) (shows : IsWindow n bits number known) (below : number < 2 ^ n)
    (filled : number % 2 ^ (n - known) ≡ 0) (is_last : last ≡ number + (2 ^ (n - known) - 1)) where
  few : known ≤ n
  few = omega (arith, shows.known)

  -- the known bits of a number
  front : (v : ℕ) → take known (bits_of n v) ≡ bits_of known (v / 2 ^ (n - known))
  front v =
      let whole : known + (n - known) ≡ n = omega (arith, few) in
      subst (λ (k : ℕ). take known (bits_of k v) ≡ bits_of known (v / 2 ^ (n - known))) whole (take-bits_of known (n - known) v)

  agreeing : (v : ℕ) → Agrees n bits v → take known (bits_of n v) ≡ take n bits
  agreeing v (inl p) =
      let first : take n bits ≡ bits_of n v = ap (λ (k : ℕ). take k bits) (sym (length-bits_of n v)) ∙ p in
      let long : n ≤ length bits = omega (arith, ap length first, length-bits_of n v, length-take n bits) in
      let all : known ≡ n = omega (arith, shows.known) in
      ap (λ (k : ℕ). take k (bits_of n v)) all ∙ take_all n (bits_of n v) (omega (arith, length-bits_of n v)) ∙ sym first
  agreeing v (inr p) =
      let short : length bits ≤ n = omega (arith, ap length p, length-take (length bits) (bits_of n v), length-bits_of n v) in
      let all : known ≡ length bits = omega (arith, shows.known) in
      ap (λ (k : ℕ). take k (bits_of n v)) all ∙ p ∙ sym (take_all n bits short)

  agrees : (v : ℕ) → take known (bits_of n v) ≡ take n bits → Agrees n bits v
  agrees v e = elim (cases_lt known n) [
    | inl lt ↦
        let all : known ≡ length bits = omega (arith, shows.known) in
        inr (ap (λ (k : ℕ). take k (bits_of n v)) (sym all) ∙ e ∙ take_all n bits (omega (arith, all)))
    | inr ge ↦ inl (ap (λ (k : ℕ). take k bits) (length-bits_of n v) ∙ sym e ∙ take_all known (bits_of n v) (omega (arith, length-bits_of n v)))
  ]

  high-below : (v : ℕ) → v < 2 ^ n → v / 2 ^ (n - known) < 2 ^ known
  high-below v lt =
      let whole : 2 ^ n ≡ 2 ^ known * 2 ^ (n - known) = ap (λ (k : ℕ). 2 ^ k) (let e : n ≡ known + (n - known) = omega (arith, few) in e) ∙ pow-add 2 known (n - known) in
      div-below v (2 ^ known) (2 ^ (n - known)) (pow_pos (n - known)) (subst (λ (k : ℕ). v < k) whole lt)

  pub left-shown : AreLeft n bits [] number last
  left-shown = by_parts (2 ^ (n - known)) (pow_pos (n - known)) refl where
    by_parts : (part : ℕ) → 0 < part → part ≡ 2 ^ (n - known) → AreLeft n bits [] number last
    by_parts part some is =
        let last_is : last ≡ number + (part - 1) = is_last ∙ ap (λ (k : ℕ). number + (k - 1)) (sym is) in
        let filled' : number % part ≡ 0 = ap (λ (k : ℕ). number % k) is ∙ filled in
        let shown : take known (bits_of n number) ≡ take n bits = shows.front in
        record {
          some = omega (arith, last_is);
          below = last-below part (2 ^ n) (2 ^ known) number some filled'
              (ap (λ (k : ℕ). 2 ^ k) (let e : n ≡ known + (n - known) = omega (arith, few) in e) ∙ pow-add 2 known (n - known)
              ∙ ap (λ (k : ℕ). 2 ^ known * k) (sym is)) below last last_is;
          inside = λ v lt p a.
              let same : bits_of known (v / 2 ^ (n - known)) ≡ bits_of known (number / 2 ^ (n - known)) = sym (front v) ∙ agreeing v a ∙ sym shown ∙ front number in
              let high : v / 2 ^ (n - known) ≡ number / 2 ^ (n - known) = bits_of-one known _ _ (high-below v lt) (high-below number below) same in
              let high' : v / part ≡ number / part = ap (λ (k : ℕ). v / k) is ∙ high ∙ ap (λ (k : ℕ). number / k) (sym is) in
              let range = same-part part v number some filled' high' in
              (range.0, omega (arith, last_is, range.1));
          outside = λ v a b. (
            refl,
            agrees v (
                let high : v / part ≡ number / part = part-same part v number some filled' a (omega (arith, last_is, b)) in
                let high' : v / 2 ^ (n - known) ≡ number / 2 ^ (n - known) = ap (λ (k : ℕ). v / k) (sym is) ∙ high ∙ ap (λ (k : ℕ). number / k) is in
                front v ∙ ap (bits_of known) high' ∙ sym (front number) ∙ shown
                ),
          );
        }
