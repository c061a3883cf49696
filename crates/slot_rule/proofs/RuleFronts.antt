-- What holds at each element of a list, of the elements before it and of the element: at no element, of one more, and of a front.
use Rattle.std.proofs.Common.{
  ◌≡◌,
  ℕ,
  ◌+◌,
  ◌<◌,
  ◌⊎◌,
  List,
  [],
  ◌∷◌,
  ◌++◌,
  length,
  get_or,
  take,
  drop,
  refl,
  sym,
  ap,
  subst₂,
  ◌∙◌,
  inl,
  inr,
  append_assoc,
  append-nil,
  subst,
  suc,
  ◌-◌,
  ◌≤◌,
  Some,
  None,
  slice_get,
  length-drop,
  arith,
}
use Rattle.std.proofs.lemmas.Option.{slice_get-get_or, slice_get_past}
use Rattle.std.proofs.lemmas.List.{same_from_push, take-append-drop, drop_more}

-- P holds of the elements before each element, and of it
abbrev pub AtEach : {X : Type 0} → (List X → X → Type 0) → List X → Type 0
AtEach {X} P xs = (before : List X) (x : X) (after : List X) → xs ≡ before ++ x ∷ after → P before x

-- a list is empty, or has a last element
pub last_cases : {X : Type 0} (xs : List X) → (xs ≡ []) ⊎ ((front : List X) × (last : X) × (xs ≡ front ++ last ∷ []))
last_cases [] = inl refl
last_cases {X} (x ∷ xs) =
    elim (last_cases xs) as (λ _. (x ∷ xs ≡ []) ⊎ ((front : List X) × (last : X) × (x ∷ xs ≡ front ++ last ∷ []))) [
      | inl none ↦ inr ([], x, ap (λ ys. x ∷ ys) none)
      | inr some ↦ inr (x ∷ some.0, some.1, ap (λ ys. x ∷ ys) some.2)
    ]

pub AtEach-nil : {X : Type 0} (P : List X → X → Type 0) → AtEach P []
AtEach-nil P [] x after e = cc
AtEach-nil P (y ∷ before) x after e = cc

pub AtEach-push : {X : Type 0} (P : List X → X → Type 0) (xs : List X) (x : X) → AtEach P xs → P xs x → AtEach P (xs ++ x ∷ [])
AtEach-push {X} P xs x each at before y after e =
    elim (last_cases after) as (λ _. P before y) [
      | inl none ↦ (let same : (xs ≡ before) × (x ≡ y) = same_from_push xs before x y (e ∙ ap (λ more. before ++ y ∷ more) none) in subst₂ P same.0 same.1 at)
      | inr some ↦ each before y some.0 (same_from_push xs (before ++ y ∷ some.0) x some.1 (e ∙ ap (λ more. before ++ y ∷ more) some.2 ∙ sym (append_assoc before (y ∷ some.0) (some.1 ∷ [])))).0
    ]

pub AtEach-front : {X : Type 0} (P : List X → X → Type 0) (xs ys : List X) → AtEach P (xs ++ ys) → AtEach P xs
AtEach-front P xs ys each before x after e = each before x (after ++ ys) (ap (λ all. all ++ ys) e ∙ append_assoc before (x ∷ after) ys)

pub AtEach-at : {X : Type 0} (P : List X → X → Type 0) (xs : List X) → AtEach P xs → (n : ℕ) (d : X) → n < length xs → P (take n xs) (get_or xs n d)
AtEach-at P xs each n d within =
    each (take n xs) (get_or xs n d) (drop (n + 1) xs) (sym (take-append-drop n xs) ∙ ap (λ rest. take n xs ++ rest) (drop_more xs n d within))

-- what holds of no element, and of one more at the end, holds of each list
pub by_push : {X : Type 0} (P : List X → Type 0) → P [] → ((xs : List X) (x : X) → P xs → P (xs ++ x ∷ [])) → (xs : List X) → P xs
by_push {X} P none more xs = onto xs [] none
  where
    onto : (rest front : List X) → P front → P (front ++ rest)
    onto [] front holds = rw append-nil holds
    onto (x ∷ rest) front holds = subst P (append_assoc front (x ∷ []) rest) (onto rest (front ++ x ∷ []) (more front x holds))

-- ---- the elements from a place on
-- the element at a place, and those after it
pub drop_next : {X : Type 0} (xs : List X) (k : ℕ) (x : X) (rest : List X) → drop k xs ≡ x ∷ rest
    → (k < length xs) × (slice_get xs k ≡ Some x) × (drop (k + 1) xs ≡ rest)
drop_next xs k x rest e =
    let size : length xs - k ≡ suc (length rest) = sym (length-drop k xs) ∙ ap length e in
    let within : k < length xs = omega arith in
    let more : x ∷ rest ≡ get_or xs k x ∷ drop (k + 1) xs = sym e ∙ drop_more xs k x within in
    (within, slice_get-get_or xs k x within ∙ cc more, cc more)

pub drop_none : {X : Type 0} (xs : List X) (k : ℕ) → drop k xs ≡ [] → (length xs ≤ k) × (slice_get xs k ≡ None)
drop_none xs k e =
    let size : length xs - k ≡ 0 = sym (length-drop k xs) ∙ ap length e in
    let past : length xs ≤ k = omega arith in
    (past, slice_get_past xs k past)
