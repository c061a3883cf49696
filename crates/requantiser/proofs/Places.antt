-- Items and their places.
use Rattle.std.proofs.Common.{◌≡◌, ℕ, ◌+◌, ◌<◌, ◌⊎◌, Option, Some, None, List, [], ◌∷◌, refl, sym, ◌∙◌, ap, ap₂, subst, inl, inr, arith}
use Rattle.std.specs.List.{AllByRecursion}
use Rattle.std.proofs.lemmas.Bool.{cases_order, cases_eq, eq-eqb, ne_eqb}
use Rattle.requantiser.specs.Places.{item_at}

module _ {A : Type 0} (gap : A → ℕ) where
  -- the item at its place
  pub item_at-here : (start place : ℕ) (x : A) (xs : List A) → place ≡ start + gap x → item_at gap start (x ∷ xs) place ≡ Some x
  item_at-here start place x xs same = rw (eq-eqb place (start + gap x) same) refl

  -- any other place is one of the rest
  pub item_at-there : (start place : ℕ) (x : A) (xs : List A) → (place ≡ start + gap x → ⊥)
      → item_at gap start (x ∷ xs) place ≡ item_at gap (start + gap x + 1) xs place
  item_at-there start place x xs other = rw (ne_eqb place (start + gap x) other) refl

  -- nothing stands before the start
  pub item_at-before : (start place : ℕ) (xs : List A) → place < start → item_at gap start xs place ≡ None
  item_at-before start place [] below = refl
  item_at-before start place (x ∷ xs) below =
      item_at-there start place x xs (λ same. absurd (omega arith)) ∙ item_at-before (start + gap x + 1) place xs (omega arith)

  module _ (R : A → A → Type 0) where
    -- both places are empty, or both have an item and the two are related
    abbrev pub BothOrNone : Option A → Option A → Type 0
    BothOrNone None None = Unit {0}
    BothOrNone None (Some y) = ⊥
    BothOrNone (Some x) None = ⊥
    BothOrNone (Some x) (Some y) = R x y

    module _ (same : (x y : A) → gap x ≡ gap y → R x y → x ≡ y) where
      one_item : (o p : Option A) (x y : A) → o ≡ Some x → p ≡ Some y → BothOrNone o p → R x y
      one_item o p x y e f both = subst (λ p. BothOrNone (Some x) p) f (subst (λ o. BothOrNone o p) e both)

      not_left : (o p : Option A) (y : A) → o ≡ None → p ≡ Some y → BothOrNone o p → ⊥
      not_left o p y e f both = subst (λ p. BothOrNone None p) f (subst (λ o. BothOrNone o p) e both)

      not_right : (o p : Option A) (x : A) → o ≡ Some x → p ≡ None → BothOrNone o p → ⊥
      not_right o p x e f both = subst (λ p. BothOrNone (Some x) p) f (subst (λ o. BothOrNone o p) e both)

      -- lists are equal where at each place the same stands
      pub same_items : (start : ℕ) (xs ys : List A) → ((place : ℕ) → BothOrNone (item_at gap start xs place) (item_at gap start ys place)) → xs ≡ ys
      same_items start [] [] both = refl
      same_items start [] (y ∷ ys) both = absurd (not_left _ _ y refl (item_at-here start (start + gap y) y ys refl) (both (start + gap y)))
      same_items start (x ∷ xs) [] both = absurd (not_right _ _ x (item_at-here start (start + gap x) x xs refl) refl (both (start + gap x)))
      same_items start (x ∷ xs) (y ∷ ys) both =
          by_order (same_items (start + gap x + 1) xs ys) (cases_order (gap x) (gap y))
        where
          first : gap x ≡ gap y → x ≡ y
          first equal = same x y equal (one_item _ _ x y (item_at-here start (start + gap x) x xs refl)
              (item_at-here start (start + gap x) y ys (ap (λ n. start + n) equal)) (both (start + gap x)))

          behind : gap x ≡ gap y → (place : ℕ) → (place ≡ start + gap x) ⊎ (place ≡ start + gap x → ⊥)
              → BothOrNone (item_at gap (start + gap x + 1) xs place) (item_at gap (start + gap x + 1) ys place)
          behind equal place (inl here) =
              subst (λ o. BothOrNone o (item_at gap (start + gap x + 1) ys place)) (sym (item_at-before (start + gap x + 1) place xs (omega arith)))
              (subst (λ o. BothOrNone None o) (sym (item_at-before (start + gap x + 1) place ys (omega arith))) tt)
          behind equal place (inr there) =
              subst (λ o. BothOrNone o (item_at gap (start + gap x + 1) ys place)) (item_at-there start place x xs there)
              (subst (λ o. BothOrNone (item_at gap start (x ∷ xs) place) o)
              (item_at-there start place y ys (λ e. there (omega arith)) ∙ ap (λ n. item_at gap (start + n + 1) ys place) (sym equal)) (both place))

          by_order : (((place : ℕ) → BothOrNone (item_at gap (start + gap x + 1) xs place) (item_at gap (start + gap x + 1) ys place)) → xs ≡ ys)
              → (gap x ≡ gap y) ⊎ ((gap x < gap y) ⊎ (gap y < gap x)) → x ∷ xs ≡ y ∷ ys
          by_order rest (inl equal) = ap₂ (λ a b. a ∷ b) (first equal) (rest (λ place. behind equal place (cases_eq place (start + gap x))))
          by_order rest (inr (inl below)) = absurd (not_right _ _ x (item_at-here start (start + gap x) x xs refl)
              (item_at-there start (start + gap x) y ys (λ e. absurd (omega arith)) ∙ item_at-before (start + gap y + 1) (start + gap x) ys (omega arith)) (both (start + gap x)))
          by_order rest (inr (inr above)) = absurd (not_left _ _ y
              (item_at-there start (start + gap y) x xs (λ e. absurd (omega arith)) ∙ item_at-before (start + gap x + 1) (start + gap y) xs (omega arith))
              (item_at-here start (start + gap y) y ys refl) (both (start + gap y)))

  -- what holds of all items holds of the one at a place
  pub item_at-all : (P : A → Type 0) (start place : ℕ) (x : A) (xs : List A) → AllByRecursion P xs → item_at gap start xs place ≡ Some x → P x
  item_at-all P start place x [] all found = let e : None ≡ Some x = found in absurd (cc)
  item_at-all P start place x (y ∷ ys) all found = by_place (item_at-all P (start + gap y + 1) place x ys all.1) (cases_eq place (start + gap y))
    where
      by_place : (item_at gap (start + gap y + 1) ys place ≡ Some x → P x) → (place ≡ start + gap y) ⊎ (place ≡ start + gap y → ⊥) → P x
      by_place rest (inl here) = let e : Some y ≡ Some x = sym (item_at-here start place y ys here) ∙ found in let same : y ≡ x = cc in subst P same all.0
      by_place rest (inr there) = rest (sym (item_at-there start place y ys there) ∙ found)
