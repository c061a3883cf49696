-- Things that are drawn one behind the other.
use Rattle.std.proofs.Common.{◌≡◌, ◌+◌, ℕ, zero, suc, List, [], ◌∷◌, ◌++◌, length, refl, sym, ap, ◌∙◌, arith}
use Rattle.std.specs.List.{range_with_len}
use Rattle.std.proofs.lemmas.List.FromFn.{length-range_with_len}
use Rattle.program_maker.specs.Draws.{Drawn, draw_each}

module _ {A : Type 0} (thing : ℕ → Drawn A) where
  -- the last of several things is drawn behind the others
  each-last : (a n k start : ℕ) → a + n ≡ k
      → draw_each (range_with_len a (suc n)) thing start
      ≡ ((draw_each (range_with_len a n) thing start).0 ++ (thing k (draw_each (range_with_len a n) thing start).1).0 ∷ [], (thing k (draw_each (range_with_len a n) thing start).1).1)
  each-last a zero k start e = ap (λ j. ((thing j start).0 ∷ [], (thing j start).1)) (let f : a ≡ k = omega (arith, e) in f)
  each-last a (suc n) k start e =
      let q : A × ℕ = thing a start in
      ap (λ (r : List A × ℕ). (q.0 ∷ r.0, r.1)) (each-last (a + 1) n k q.1 (omega (arith, e)))

  -- one more thing
  pub each-more : (n start : ℕ)
      → (draw_each (range_with_len 0 (n + 1)) thing start).0 ≡ (draw_each (range_with_len 0 n) thing start).0 ++ (thing n (draw_each (range_with_len 0 n) thing start).1).0 ∷ []
  each-more n start =
      let e : n + 1 ≡ suc n = omega arith in
      ap (λ k. (draw_each (range_with_len 0 k) thing start).0) e ∙ ap (λ (r : List A × ℕ). r.0) (each-last 0 n n start (omega arith))

  pub state-more : (n start : ℕ) → (draw_each (range_with_len 0 (n + 1)) thing start).1 ≡ (thing n (draw_each (range_with_len 0 n) thing start).1).1
  state-more n start =
      let e : n + 1 ≡ suc n = omega arith in
      ap (λ k. (draw_each (range_with_len 0 k) thing start).1) e ∙ ap (λ (r : List A × ℕ). r.1) (each-last 0 n n start (omega arith))

  -- one more thing behind those that were made
  pub drawn-more : (n start : ℕ) (made more : List A) (value : A) (state next : ℕ)
      → (made ≡ (draw_each (range_with_len 0 n) thing start).0) × (state ≡ (draw_each (range_with_len 0 n) thing start).1)
      → value ≡ (thing n state).0 → next ≡ (thing n state).1 → more ≡ made ++ value ∷ []
      → (more ≡ (draw_each (range_with_len 0 (n + 1)) thing start).0) × (next ≡ (draw_each (range_with_len 0 (n + 1)) thing start).1)
  drawn-more n start made more value state next (e, f) is leaves added = (
    added ∙ ap (λ (xs : List A). xs ++ value ∷ []) e
        ∙ ap (λ (x : A). (draw_each (range_with_len 0 n) thing start).0 ++ x ∷ []) (is ∙ ap (λ s. (thing n s).0) f) ∙ sym (each-more n start),
    leaves ∙ ap (λ s. (thing n s).1) f ∙ sym (state-more n start),
  )

length-each : {I A : Type 0} (thing : I → Drawn A) (is : List I) (start : ℕ) → length (draw_each is thing start).0 ≡ length is
length-each thing [] start = refl
length-each thing (i ∷ is) start = ap suc (length-each thing is (thing i start).1)

-- as many things as are asked for
pub number-each : {A : Type 0} (thing : ℕ → Drawn A) (n start : ℕ) → length (draw_each (range_with_len 0 n) thing start).0 ≡ n
number-each thing n start = length-each thing (range_with_len 0 n) start ∙ length-range_with_len 0 n
