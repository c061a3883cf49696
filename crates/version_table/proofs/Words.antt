-- What follows some bytes at the front of a text.
use Rattle.std.proofs.Common.{◌≡◌, ℕ, ◌+◌, Bool, true, false, cond, ◌&&◌, eqb, List, [], ◌∷◌, ◌++◌, length, take, drop, Option, Some, None, refl, sym, ap, ◌∙◌, inl, inr}
use Rattle.std.specs.Prelude.{MatchOption}
use Rattle.std.specs.Option.{option_copied}
use Rattle.std.specs.Borrow.{Bor}
use Rattle.std.specs.Cmp.Lexicographic.{pointwise}
use Rattle.std.proofs.lemmas.Bool.{eqb-true, eq-eqb, cases_Bool}
use Rattle.version_table.specs.Private.Reading.{after}

cond_and : {A : Type 0} (p q : Bool) (x y : A) → cond (p && q) x y ≡ cond p (cond q x y) y
cond_and true q x y = refl
cond_and false q x y = refl

-- as a comparison of the front with the bytes
after_by_front : (word text : List ℕ) → after word text ≡ cond (pointwise eqb (take (length word) text) word) (Some (drop (length word) text)) None
unfolding after
after_by_front [] text = refl
after_by_front (b ∷ word) [] = refl
after_by_front (b ∷ word) (c ∷ text) =
    ap (λ (rest : Option (List ℕ)). cond (eqb c b) rest None) (after_by_front word text)
    ∙ sym (cond_and (eqb c b) (pointwise eqb (take (length word) text) word) (Some (drop (length word) text)) None)

pub after_from_strip : (word text : List ℕ) (r : Option (Bor (List ℕ)))
    → MatchOption r (pointwise eqb (take (length word) text) word ≡ false)
    (λ x. (pointwise eqb (take (length word) text) word ≡ true) × (x.now ≡ drop (length word) text) × (length x.now + length word ≡ length text))
    → option_copied r ≡ after word text
after_from_strip word text None h = sym (after_by_front word text ∙ ap (λ (b : Bool). cond b (Some (drop (length word) text)) None) h)
after_from_strip word text (Some x) h =
    let there : after word text ≡ Some (drop (length word) text) = after_by_front word text ∙ ap (λ (b : Bool). cond b (Some (drop (length word) text)) None) h.0 in
    ap (λ (t : List ℕ). Some t) h.1 ∙ sym there

-- the bytes and what follows them
pub after-append : (word rest : List ℕ) → after word (word ++ rest) ≡ Some rest
unfolding after
after-append [] rest = refl
after-append (b ∷ word) rest = rw (eq-eqb b b refl) (after-append word rest)

pub after_sound : (word text rest : List ℕ) → after word text ≡ Some rest → text ≡ word ++ rest
unfolding after
after_sound [] text rest e = cc
after_sound (b ∷ word) [] rest e = absurd cc
after_sound (b ∷ word) (c ∷ text) rest e =
    elim (cases_Bool (eqb c b)) [
      | inl same ↦
          let here = eqb-true c b same in
          let there = after_sound word text rest (rw same at e) in
          cc
      | inr other ↦ let none = rw other at e in absurd cc
    ]
