-- Lists at one place, and in parts.
use Rattle.std.proofs.Common.{◌≡◌, ℕ, zero, suc, ◌+◌, ◌<◌, List, [], ◌∷◌, ◌++◌, length, take, set, slice_get, Some, refl, sym, ap, ◌∙◌, inl, inr, arith}
use Rattle.std.specs.List.{range_with_len}
use Rattle.std.proofs.lemmas.Bool.{cases_lt}
use Rattle.std.proofs.lemmas.List.{length-append, length-take, take_all, take-append-le, take_at}

pub slice_get-set_same : {X : Type 0} (xs : List X) (n : ℕ) (x : X) → n < length xs → slice_get (set xs n x) n ≡ Some x
slice_get-set_same [] n x within = absurd (omega arith)
slice_get-set_same (y ∷ xs) zero x within = refl
slice_get-set_same (y ∷ xs) (suc n) x within = slice_get-set_same xs n x (omega arith)

pub slice_get-set_other : {X : Type 0} (xs : List X) (n k : ℕ) (x : X) → (k ≡ n → ⊥) → slice_get (set xs n x) k ≡ slice_get xs k
slice_get-set_other [] n k x apart = refl
slice_get-set_other (y ∷ xs) zero zero x apart = absurd (apart refl)
slice_get-set_other (y ∷ xs) zero (suc k) x apart = refl
slice_get-set_other (y ∷ xs) (suc n) zero x apart = refl
slice_get-set_other (y ∷ xs) (suc n) (suc k) x apart = slice_get-set_other xs n k x (λ e. apart (ap suc e))

-- the last number of a range
pub range-last : (a n : ℕ) → range_with_len a (suc n) ≡ range_with_len a n ++ (a + n) ∷ []
range-last a zero = ap (λ x. x ∷ []) (let e : a ≡ a + 0 = omega arith in e)
range-last a (suc n) = ap (λ (xs : List ℕ). a ∷ xs) (range-last (a + 1) n ∙ ap (λ x. range_with_len (a + 1) n ++ x ∷ []) (let e : a + 1 + n ≡ a + suc n = omega arith in e))

-- three parts one behind the other
pub three_parts : (a b c : List ℕ) → length (a ++ b ++ c) ≡ length a + length b + length c
three_parts a b c = omega (arith, length-append (a ++ b) c, length-append a b)

-- the first of a front and what is behind it are the first of both
pub take_behind : (most : ℕ) (ys xs : List ℕ) → take most (take most ys ++ xs) ≡ take most (ys ++ xs)
take_behind most ys xs = elim (cases_lt (length ys) most) [
  | inl less ↦ ap (λ (zs : List ℕ). take most (zs ++ xs)) (take_all most ys (omega arith))
  | inr more ↦ (
      let size : length (take most ys) ≡ most = omega (arith, length-take most ys) in
      take_at (take most ys) xs most size ∙ sym (take-append-le most ys xs more)
      )
]
