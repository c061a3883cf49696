-- An element whose codes don't begin one another decides by its bits.
use Rattle.std.proofs.Common.{◌≡◌, ℕ, ◌⊎◌, List, [], ◌∷◌, ◌++◌, true, false, refl, sym, ap, subst, ◌∙◌, inl, inr, append_assoc}
use Rattle.std.proofs.lemmas.Bool.{and_parts, both_ways}
use Rattle.std.proofs.lemmas.List.{append_cancel_left}
use Rattle.std.proofs.lemmas.List.Folds.{list_all-append}
use Rattle.bit_lists.specs.Bits.{IsPrefix}
use Rattle.bit_lists.proofs.PrefixLemmas.{IsPrefix-append, IsPrefix-either, IsPrefix-through}
use Rattle.picture_grammar.specs.Refusal.{Refusal}
use Rattle.picture_grammar.specs.Element.{Rule, passes, MayStand, Breaks, IsRefused, element}
use Rattle.picture_grammar.specs.Exact.{IsExact}

-- no code begins that of another value, and each value has one code that begins a given one
abbrev pub IsPrefixFree : {A : Type 0} → (A → List ℕ → Type 0) → Type 0
IsPrefixFree {A} Codes = (v w : A) (c d : List ℕ) → Codes v c → Codes w d → IsPrefix c d → (v ≡ w) × (c ≡ d)

-- what passes all rules passes the first ones
passes-front : {A : Type 0} (front back : List (Rule A)) (v : A) → passes (front ++ back) v ≡ true → passes front v ≡ true
passes-front front back v p = (and_parts (passes front v) (passes back v) (sym (list_all-append (λ r. r.test v) front back) ∙ p)).0

-- where a list is split twice, the two places are one, or one is before the other
same_or_earlier : {R : Type 0} (b c : List R) (k l : R) (a d : List R) → b ++ k ∷ a ≡ c ++ l ∷ d → (k ≡ l) ⊎ ((m : List R) × (c ≡ b ++ k ∷ m)) ⊎ ((m : List R) × (b ≡ c ++ l ∷ m))
same_or_earlier [] [] k l a d e = inl cc
same_or_earlier [] (y ∷ c) k l a d e = inr (inl (c, cc))
same_or_earlier (x ∷ b) [] k l a d e = inr (inr (b, cc))
same_or_earlier {R = R} (x ∷ b) (y ∷ c) k l a d e = longer (same_or_earlier b c k l a d cc) where
  longer : (k ≡ l) ⊎ ((m : List R) × (c ≡ b ++ k ∷ m)) ⊎ ((m : List R) × (b ≡ c ++ l ∷ m)) → (k ≡ l) ⊎ ((m : List R) × (y ∷ c ≡ (x ∷ b) ++ k ∷ m)) ⊎ ((m : List R) × (x ∷ b ≡ (y ∷ c) ++ l ∷ m))
  longer (inl same) = inl same
  longer (inr (inl (m, f))) = inr (inl (m, cc))
  longer (inr (inr (m, f))) = inr (inr (m, cc))

module _ {A : Type 0} (Codes : A → List ℕ → Type 0) where
  MayStand-front : (front back : List (Rule A)) (bits : List ℕ) → MayStand Codes (front ++ back) bits → MayStand Codes front bits
  MayStand-front front back bits m = record {
    value = m.value;
    code = m.code;
    coded = m.coded;
    passing = passes-front front back m.value m.passing;
    agrees = m.agrees;
  }

  -- a rule that a place breaks stands among the rules
  Breaks-front : (rules : List (Rule A)) (bits : List ℕ) (refusal : Refusal) (b : Breaks Codes rules bits refusal) → rules ≡ (b.before ++ b.broken ∷ []) ++ b.after
  Breaks-front rules bits refusal b = b.order ∙ sym (append_assoc b.before (b.broken ∷ []) b.after)

  no_break : (rules : List (Rule A)) (bits : List ℕ) (refusal : Refusal) → Breaks Codes rules bits refusal → MayStand Codes rules bits → ⊥
  no_break rules bits refusal b m =
      b.none (MayStand-front (b.before ++ b.broken ∷ []) b.after bits (subst (λ (rs : List (Rule A)). MayStand Codes rs bits) (Breaks-front rules bits refusal b) m))

  -- a code meets the rules before a broken one, so no earlier rule is broken
  no_earlier_break : (bits : List ℕ) (before later : List (Rule A)) (k : Rule A) → (MayStand Codes (before ++ k ∷ []) bits → ⊥) → MayStand Codes (before ++ k ∷ later) bits → ⊥
  no_earlier_break bits before later k none m =
      none (MayStand-front (before ++ k ∷ []) later bits (subst (λ (rs : List (Rule A)). MayStand Codes rs bits) (sym (append_assoc before (k ∷ []) later)) m))

  one_break : (rules : List (Rule A)) (bits : List ℕ) (r s : Refusal) → Breaks Codes rules bits r → Breaks Codes rules bits s → r ≡ s
  one_break rules bits r s b c = by_cases (same_or_earlier b.before c.before b.broken c.broken b.after c.after (sym b.order ∙ c.order)) where
    by_cases : (b.broken ≡ c.broken) ⊎ ((m : List (Rule A)) × (c.before ≡ b.before ++ b.broken ∷ m)) ⊎ ((m : List (Rule A)) × (b.before ≡ c.before ++ c.broken ∷ m)) → r ≡ s
    by_cases (inl same) = b.named ∙ ap (λ (k : Rule A). k.refusal) same ∙ sym c.named
    by_cases (inr (inl (m, e))) = absurd (no_earlier_break bits b.before m b.broken b.none (subst (λ (rs : List (Rule A)). MayStand Codes rs bits) e c.so_far))
    by_cases (inr (inr (m, e))) = absurd (no_earlier_break bits c.before m c.broken c.none (subst (λ (rs : List (Rule A)). MayStand Codes rs bits) e b.so_far))

  module _ (no_code : Refusal) (rules : List (Rule A)) (free : IsPrefixFree Codes) where
    -- what stands may stand
    may : (v : A) (bits rest : List ℕ) → (element Codes no_code rules).Spells v bits rest → MayStand Codes rules bits
    may v bits rest (code, coded, passing, split) = record {
      value = v;
      code = code;
      coded = coded;
      passing = passing;
      agrees = inl (subst (IsPrefix code) (sym split) (IsPrefix-append code rest));
    }

    element_value : (v w : A) (bits rest other : List ℕ) → (element Codes no_code rules).Spells v bits rest → (element Codes no_code rules).Spells w bits other → (v ≡ w) × (rest ≡ other)
    element_value v w bits rest other (c, coded, passing, split) (d, coded', passing', split') = by_cases (IsPrefix-either c d bits first first') where
      first : IsPrefix c bits
      first = subst (IsPrefix c) (sym split) (IsPrefix-append c rest)

      first' : IsPrefix d bits
      first' = subst (IsPrefix d) (sym split') (IsPrefix-append d other)

      rests : c ≡ d → rest ≡ other
      rests e = append_cancel_left c rest other (sym split ∙ split' ∙ ap (λ x. x ++ other) (sym e))

      by_cases : IsPrefix c d ⊎ IsPrefix d c → (v ≡ w) × (rest ≡ other)
      by_cases (inl p) = let same = free v w c d coded coded' p in (same.0, rests same.1)
      by_cases (inr p) = let same = free w v d c coded' coded p in (sym same.0, rests (sym same.1))

    element_both : (v : A) (bits rest left : List ℕ) (refusal : Refusal) → (element Codes no_code rules).Spells v bits rest → (element Codes no_code rules).Refuses bits refusal left → ⊥
    element_both v bits rest left refusal s (e, inl (none, named)) = none (MayStand-front [] rules bits (may v bits rest s))
    element_both v bits rest left refusal s (e, inr (inl b)) = no_break rules bits refusal b (may v bits rest s)
    element_both v bits rest left refusal (c, coded, passing, split) (e, inr (inr (m, none, named))) =
        none (record { value = v; code = c; coded = coded; passing = passing; first = subst (IsPrefix c) (sym split) (IsPrefix-append c rest) })

    one_kind : (bits : List ℕ) (r s : Refusal) → IsRefused Codes no_code rules bits r → IsRefused Codes no_code rules bits s → r ≡ s
    one_kind bits r s (inl (none, e)) (inl (none', f)) = e ∙ sym f
    one_kind bits r s (inl (none, e)) (inr (inl b)) = absurd (none (MayStand-front [] b.before bits b.so_far))
    one_kind bits r s (inl (none, e)) (inr (inr (m, cut, f))) = absurd (none (MayStand-front [] rules bits m))
    one_kind bits r s (inr (inl b)) (inl (none, f)) = absurd (none (MayStand-front [] b.before bits b.so_far))
    one_kind bits r s (inr (inl b)) (inr (inl c)) = one_break rules bits r s b c
    one_kind bits r s (inr (inl b)) (inr (inr (m, cut, f))) = absurd (no_break rules bits r b m)
    one_kind bits r s (inr (inr (m, cut, e))) (inl (none, f)) = absurd (none (MayStand-front [] rules bits m))
    one_kind bits r s (inr (inr (m, cut, e))) (inr (inl b)) = absurd (no_break rules bits s b m)
    one_kind bits r s (inr (inr (m, cut, e))) (inr (inr (m', cut', f))) = e ∙ sym f

    element_refusal : (bits left other : List ℕ) (r s : Refusal) → (element Codes no_code rules).Refuses bits r left → (element Codes no_code rules).Refuses bits s other → (r ≡ s) × (left ≡ other)
    element_refusal bits left other r s (e, p) (f, q) = (one_kind bits r s p q, e ∙ sym f)

    pub exact-element : IsExact (element Codes no_code rules)
    exact-element = record {
      one_value = element_value;
      not_both = element_both;
      one_refusal = element_refusal;
      spelled_front = λ v bits rest (code, coded, passing, split). (code, split);
      refused_front = λ bits left refusal (e, r). ([], sym e);
    }

    -- where the empty code is allowed nothing is refused, as a number of no bits
    pub no_bits : (v : A) (bits left : List ℕ) (refusal : Refusal) → Codes v [] → passes rules v ≡ true → (element Codes no_code rules).Refuses bits refusal left → ⊥
    no_bits v bits left refusal coded passing = element_both v bits bits left refusal ([], coded, passing, refl)

  -- ---- where a whole code stands

  module _ (free : IsPrefixFree Codes) (w : A) (k : List ℕ) (coded : Codes w k) (bits : List ℕ) (first : IsPrefix k bits) where
    -- nothing else may stand there
    pub MayStand-value : (rules : List (Rule A)) (m : MayStand Codes rules bits) → m.value ≡ w
    MayStand-value rules m = by_cases m.agrees where
      one_of : IsPrefix m.code k ⊎ IsPrefix k m.code → m.value ≡ w
      one_of (inl p) = (free m.value w m.code k m.coded coded p).0
      one_of (inr p) = sym (free w m.value k m.code coded m.coded p).0

      by_cases : IsPrefix m.code bits ⊎ IsPrefix bits m.code → m.value ≡ w
      by_cases (inl p) = one_of (IsPrefix-either m.code k bits p first)
      by_cases (inr p) = one_of (inr (IsPrefix-through k bits m.code first p))

    -- the first rule that its value doesn't pass is broken
    pub breaks : (before after : List (Rule A)) (broken : Rule A) → passes before w ≡ true → broken.test w ≡ false → Breaks Codes (before ++ broken ∷ after) bits broken.refusal
    breaks before after broken passing fails = record {
      before = before;
      broken = broken;
      after = after;
      order = refl;
      so_far = record { value = w; code = k; coded = coded; passing = passing; agrees = inl first };
      none = λ m.
          let same = MayStand-value (before ++ broken ∷ []) m in
          let tests = sym (list_all-append (λ r. r.test m.value) before (broken ∷ [])) ∙ m.passing in
          let last = (and_parts (broken.test m.value) true (and_parts (passes before m.value) (passes (broken ∷ []) m.value) tests).1).0 in
          both_ways (broken.test w) fails (ap broken.test (sym same) ∙ last);
      named = refl;
    }
