-- A place taken out of a row, and what its neighbours are then.
use Rattle.std.proofs.Common.{◌≡◌, ℕ, ◌+◌, ◌<◌, ◌≤◌, Bool, true, false, List, length, get_or, set, sym, ap, subst, ◌∙◌, inl, inr, arith}
use Rattle.std.proofs.Math.Path.{fun_ext}
use Rattle.std.proofs.lemmas.Bool.{both_ways, cases_eq, cases_order}
use Rattle.std.proofs.lemmas.List.{get_or-set_other, get_or-set_same, length-set, set-get_or, set-set}
use Rattle.certificate_checker.specs.declared.links.Links.{Links}
use Rattle.certificate_checker.specs.Private.Neighbours.{AreLinked, IsNext, IsRow}

-- the next place is one
one_behind : (out : ℕ → Bool) (count p q r : ℕ) → IsNext out count p q → IsNext out count p r → q ≡ r
one_behind out count p q r first second = elim (cases_order q r) as (λ _. q ≡ r) [
  | inl same ↦ same
  | inr (inl less) ↦ absurd (both_ways (out q) first.last (second.between q first.goes less))
  | inr (inr more) ↦ absurd (both_ways (out r) second.last (first.between r second.goes more))
]

one_before : (out : ℕ → Bool) (count p q r : ℕ) → IsNext out count p r → IsNext out count q r → p ≡ q
one_before out count p q r first second = elim (cases_order p q) as (λ _. p ≡ q) [
  | inl same ↦ same
  | inr (inl less) ↦ absurd (both_ways (out q) second.first (first.between q less second.goes))
  | inr (inr more) ↦ absurd (both_ways (out p) first.first (second.between p more first.goes))
]

-- one more place is out
pub record IsOneMore (out more : ℕ → Bool) (at : ℕ) : Type 0 where
  pub own : more at ≡ true
  pub others : (r : ℕ) → (r ≡ at → ⊥) → more r ≡ out r

-- neighbours that both stay
stay : (out more : ℕ → Bool) (count p q at : ℕ) → IsOneMore out more at → IsNext out count p q → (p ≡ at → ⊥) → (q ≡ at → ⊥) → IsNext more count p q
stay out more count p q at one is p_apart q_apart = record {
  goes = is.goes;
  within = is.within;
  first = one.others p p_apart ∙ is.first;
  last = one.others q q_apart ∙ is.last;
  between = λ r above below. elim (cases_eq r at) as (λ _. more r ≡ true) [
    | inl here ↦ ap more here ∙ one.own
    | inr apart ↦ one.others r apart ∙ is.between r above below
  ];
}

-- the neighbours of a place that is taken out
closed_up : (out more : ℕ → Bool) (count before at behind : ℕ) → IsOneMore out more at → IsNext out count before at → IsNext out count at behind → IsNext more count before behind
closed_up out more count before at behind one left right = record {
  goes = omega (arith, left.goes, right.goes);
  within = right.within;
  first = one.others before (λ e. omega (arith, e, left.goes)) ∙ left.first;
  last = one.others behind (λ e. omega (arith, e, right.goes)) ∙ right.last;
  between = λ r above below. elim (cases_order r at) as (λ _. more r ≡ true) [
    | inl here ↦ ap more here ∙ one.own
    | inr (inl less) ↦ one.others r (λ e. omega (arith, e, less)) ∙ left.between r above less
    | inr (inr past) ↦ one.others r (λ e. omega (arith, e, past)) ∙ right.between r past below
  ];
}

pub linked_without : (out more : ℕ → Bool) (count at : ℕ) (next previous : List ℕ) → AreLinked out count next previous → IsOneMore out more at → 1 ≤ at → at ≤ count → out at ≡ false
    → AreLinked more count (set next (get_or previous at 0) (get_or next at 0)) (set previous (get_or next at 0) (get_or previous at 0))
linked_without out more count at next previous linked one some within in_row =
    let before = get_or previous at 0 in
    let behind = get_or next at 0 in
    let left : IsNext out count before at = linked.previouses at some (omega (arith, within)) in_row in
    let right : IsNext out count at behind = linked.nexts at within in_row in
    let stays : (r : ℕ) → more r ≡ false → r ≡ at → ⊥ = λ r still e. both_ways (more at) (sym (ap more e) ∙ still) one.own in
    record {
      next_size = length-set next before behind ∙ linked.next_size;
      previous_size = length-set previous behind before ∙ linked.previous_size;
      begins = one.others 0 (λ e. omega (arith, e, some)) ∙ linked.begins;
      ends = one.others (count + 1) (λ e. omega (arith, e, within)) ∙ linked.ends;
      nexts = λ p low still. elim (cases_eq p before) as (λ _. IsNext more count p (get_or (set next before behind) p 0)) [
        | inl here ↦
            (let value : get_or (set next before behind) p 0 ≡ behind =
            ap (λ (n : ℕ). get_or (set next before behind) n 0) here ∙ get_or-set_same next before behind 0 (omega (arith, linked.next_size, left.goes, within)) in
            subst (λ (q : ℕ). IsNext more count p q) (sym value) (subst (λ (n : ℕ). IsNext more count n behind) (sym here) (closed_up out more count before at behind one left right)))
        | inr apart ↦
            (let was : out p ≡ false = sym (one.others p (stays p still)) ∙ still in
            let is : IsNext out count p (get_or next p 0) = linked.nexts p low was in
            let value : get_or (set next before behind) p 0 ≡ get_or next p 0 = get_or-set_other next before p behind 0 apart in
            subst (λ (q : ℕ). IsNext more count p q) (sym value)
            (stay out more count p (get_or next p 0) at one is (stays p still)
            (λ e. apart (one_before out count p before at (subst (λ (q : ℕ). IsNext out count p q) e is) left))))
      ];
      previouses = λ q least low still. elim (cases_eq q behind) as (λ _. IsNext more count (get_or (set previous behind before) q 0) q) [
        | inl here ↦
            (let value : get_or (set previous behind before) q 0 ≡ before =
            ap (λ (n : ℕ). get_or (set previous behind before) n 0) here ∙ get_or-set_same previous behind before 0 (omega (arith, linked.previous_size, right.within)) in
            subst (λ (p : ℕ). IsNext more count p q) (sym value) (subst (λ (n : ℕ). IsNext more count before n) (sym here) (closed_up out more count before at behind one left right)))
        | inr apart ↦
            (let was : out q ≡ false = sym (one.others q (stays q still)) ∙ still in
            let is : IsNext out count (get_or previous q 0) q = linked.previouses q least low was in
            let value : get_or (set previous behind before) q 0 ≡ get_or previous q 0 = get_or-set_other previous behind q before 0 apart in
            subst (λ (p : ℕ). IsNext more count p q) (sym value)
            (stay out more count (get_or previous q 0) q at one is
            (λ e. apart (one_behind out count at q behind (subst (λ (p : ℕ). IsNext out count p q) e is) right)) (stays q still)))
      ];
    }

-- what a place's own entries say puts it back
pub record IsPutBack (next previous : List ℕ) (at : ℕ) (next_without previous_without : List ℕ) : Type 0 where
  pub before : get_or previous_without at 0 < length next_without
  pub behind : get_or next_without at 0 < length previous_without
  pub nexts : set next_without (get_or previous_without at 0) at ≡ next
  pub previouses : set previous_without (get_or next_without at 0) at ≡ previous

pub puts_back : (out : ℕ → Bool) (count at : ℕ) (next previous : List ℕ) → AreLinked out count next previous → 1 ≤ at → at ≤ count → out at ≡ false
    → IsPutBack next previous at (set next (get_or previous at 0) (get_or next at 0)) (set previous (get_or next at 0) (get_or previous at 0))
puts_back out count at next previous linked some within in_row =
    let before = get_or previous at 0 in
    let behind = get_or next at 0 in
    let left : IsNext out count before at = linked.previouses at some (omega (arith, within)) in_row in
    let right : IsNext out count at behind = linked.nexts at within in_row in
    let own_before : get_or (set previous behind before) at 0 ≡ before = get_or-set_other previous behind at before 0 (λ e. omega (arith, e, right.goes)) in
    let own_behind : get_or (set next before behind) at 0 ≡ behind = get_or-set_other next before at behind 0 (λ e. omega (arith, e, left.goes)) in
    let next_is : get_or next before 0 ≡ at = one_behind out count before (get_or next before 0) at (linked.nexts before (omega (arith, left.goes, within)) left.first) left in
    let previous_is : get_or previous behind 0 ≡ at =
    one_before out count (get_or previous behind 0) at behind (linked.previouses behind (omega (arith, right.goes)) right.within right.last) right in
    record {
      before = omega (arith, own_before, left.goes, within, linked.next_size, length-set next before behind);
      behind = omega (arith, own_behind, right.within, linked.previous_size, length-set previous behind before);
      nexts = ap (λ (n : ℕ). set (set next before behind) n at) own_before ∙ set-set next before behind at ∙ ap (set next before) (sym next_is) ∙ set-get_or next before 0;
      previouses = ap (λ (n : ℕ). set (set previous behind before) n at) own_behind ∙ set-set previous behind before at ∙ ap (set previous behind) (sym previous_is)
          ∙ set-get_or previous behind 0;
    }

-- the same places are out
pub linked_same : (out other : ℕ → Bool) (count : ℕ) (next previous : List ℕ) → ((r : ℕ) → other r ≡ out r) → AreLinked out count next previous → AreLinked other count next previous
linked_same out other count next previous same linked =
    let whole : other ≡ out = fun_ext same in
    subst (λ (f : ℕ → Bool). AreLinked f count next previous) (sym whole) linked

-- none is out
pub linked_row : (out : ℕ → Bool) (count : ℕ) (links : Links) → ((r : ℕ) → out r ≡ false) → IsRow (count + 2) links → AreLinked out count links.next.items links.previous.items
linked_row out count links none row = record {
  next_size = row.next_size;
  previous_size = row.previous_size;
  begins = none 0;
  ends = none (count + 1);
  nexts = λ p low still. record {
    goes = omega (arith, row.nexts p (omega (arith, low)));
    within = omega (arith, row.nexts p (omega (arith, low)), low);
    first = none p;
    last = none (get_or links.next.items p 0);
    between = λ r above below. absurd (omega (arith, row.nexts p (omega (arith, low)), above, below));
  };
  previouses = λ q least low still. record {
    goes = omega (arith, row.previouses q (omega (arith, low)), least);
    within = low;
    first = none (get_or links.previous.items q 0);
    last = none q;
    between = λ r above below. absurd (omega (arith, row.previouses q (omega (arith, low)), above, below));
  };
}
