-- What stands at a place of a list that is made of others.
use Rattle.std.proofs.Common.{◌≡◌, ℕ, zero, suc, ◌+◌, ◌<◌, List, [], ◌∷◌, ◌++◌, length, map, take, drop, get_or, length-take, slice_get, All, Some, refl, sym, ap, subst, ◌∙◌, arith}
use Rattle.std.specs.List.{enumerate_from}
use Rattle.std.specs.Option.{option_map}
use Rattle.std.proofs.lemmas.Option.{slice_get_read, slice_get_within, get_or_from_slice_get}

pub slice_get-append_left : {X : Type 0} (xs ys : List X) (k : ℕ) → k < length xs → slice_get (xs ++ ys) k ≡ slice_get xs k
slice_get-append_left [] ys k within = absurd (omega arith)
slice_get-append_left (x ∷ xs) ys zero within = refl
slice_get-append_left (x ∷ xs) ys (suc k) within = slice_get-append_left xs ys k (omega arith)

pub slice_get-append_right : {X : Type 0} (xs ys : List X) (n k : ℕ) → n ≡ length xs + k → slice_get (xs ++ ys) n ≡ slice_get ys k
slice_get-append_right [] ys n k e = ap (λ i. slice_get ys i) (let same : n ≡ k = omega arith in same)
slice_get-append_right (x ∷ xs) ys zero k e = absurd (omega arith)
slice_get-append_right (x ∷ xs) ys (suc n) k e = slice_get-append_right xs ys n k (omega arith)

pub slice_get-drop : {X : Type 0} (n : ℕ) (xs : List X) (k : ℕ) → slice_get (drop n xs) k ≡ slice_get xs (n + k)
slice_get-drop zero xs k = ap (λ i. slice_get xs i) (let same : k ≡ 0 + k = omega arith in same)
slice_get-drop (suc n) [] k = refl
slice_get-drop (suc n) (x ∷ xs) k = slice_get-drop n xs k ∙ ap (λ i. slice_get (x ∷ xs) i) (let same : suc (n + k) ≡ suc n + k = omega arith in same)

-- a list whose elements are made of their numbers
pub slice_get-numbered : {A B : Type 0} (f : ℕ × A → B) (from : ℕ) (xs : List A) (k : ℕ)
    → slice_get (map f (enumerate_from from xs)) k ≡ option_map (λ x. f (from + k, x)) (slice_get xs k)
slice_get-numbered f from [] k = refl
slice_get-numbered f from (x ∷ xs) zero = ap (λ n. Some (f (n, x))) (let same : from ≡ from + 0 = omega arith in same)
slice_get-numbered f from (x ∷ xs) (suc k) =
    slice_get-numbered f (from + 1) xs k ∙ ap (λ n. option_map (λ y. f (n, y)) (slice_get xs k)) (let same : from + 1 + k ≡ from + suc k = omega arith in same)

-- what a read of a list that is known under another name gives
pub slice_get_read_as : {X : Type 0} (xs ys : List X) (i : ℕ) (x : X) → xs ≡ ys → i < length xs → x ≡ get_or xs i x → slice_get ys i ≡ Some x
slice_get_read_as xs ys i x same within read = ap (λ list. slice_get list i) (sym same) ∙ slice_get_read xs (length xs) i x refl within read

-- what holds of each element holds of the one at a place
pub All-at_place : {X : Type 0} (P : X → Type 0) (xs : List X) → All P xs → (k : ℕ) (x : X) → slice_get xs k ≡ Some x → P x
All-at_place P xs each k x got = subst (λ y. P y) (get_or_from_slice_get xs k x x got) (each k x (slice_get_within xs k x got))

pub slice_get-take : {X : Type 0} (n : ℕ) (xs : List X) (k : ℕ) → k < n → slice_get (take n xs) k ≡ slice_get xs k
slice_get-take zero xs k below = absurd (omega arith)
slice_get-take (suc n) [] k below = refl
slice_get-take (suc n) (x ∷ xs) zero below = refl
slice_get-take (suc n) (x ∷ xs) (suc k) below = slice_get-take n xs k (omega arith)

-- an element of a front stands in the list, below the front's end
pub slice_get_of_front : {X : Type 0} (n : ℕ) (xs : List X) (k : ℕ) (x : X) → slice_get (take n xs) k ≡ Some x → (k < n) × (slice_get xs k ≡ Some x)
slice_get_of_front n xs k x got =
    let within : k < length (take n xs) = slice_get_within (take n xs) k x got in
    let below : k < n = omega (arith, length-take n xs) in
    (below, sym (slice_get-take n xs k below) ∙ got)
