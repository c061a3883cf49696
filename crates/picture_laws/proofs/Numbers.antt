-- The numbers of so many bits whose bits agree with some bits.
use Rattle.std.proofs.Common.{
  ◌≡◌,
  ℕ,
  zero,
  suc,
  ◌+◌,
  ◌-◌,
  ◌*◌,
  ◌/◌,
  ◌%◌,
  ◌^◌,
  ◌<◌,
  ◌≤◌,
  nat_le,
  List,
  [],
  ◌∷◌,
  ◌++◌,
  length,
  take,
  drop,
  map,
  Bool,
  true,
  false,
  refl,
  sym,
  ap,
  subst,
  ◌∙◌,
  inl,
  inr,
  arith,
  zero-add,
}
use Rattle.std.specs.List.{range_with_len}
use Rattle.std.proofs.Math.Nat.{mod-eq_of_lt, mod-lt, div-add-mod, mul-le-mul_right, div-lt_iff_lt-mul, mul_comm}
use Rattle.std.proofs.lemmas.Bool.{leb-true, leb-false, both_ways}
use Rattle.std.proofs.lemmas.List.{length-take, take_all}
use Rattle.std.proofs.lemmas.Nat.{pow_pos, pow-add}
use Rattle.bit_lists.specs.Bits.{IsPrefix, bits_of, number_of}
use Rattle.bit_lists.proofs.BitLemmas.{length-bits_of, take-bits_of, number_of-bits_of}
use Rattle.bit_lists.proofs.JoinedLemmas.{bits_of-put}
use Rattle.bit_lists.proofs.PrefixLemmas.{IsPrefix-append, IsPrefix-split, IsPrefix-whole, IsPrefix-either, IsPrefix-through, IsPrefix-without, IsPrefix-behind}
use Rattle.bit_lists.proofs.NumberLemmas.{number_of-below, AreBits-take, AreBits-drop, AreBits, bits_of-number_of}
use Rattle.picture_laws.proofs.Candidates.{In, Agrees, begins, begins-true, begins-from}

-- ---- bits and their number

-- ---- ranges

in-range : (a n j : ℕ) → j < n → In (a + j) (range_with_len a n)
in-range a zero j lt = absurd (omega (arith, lt))
in-range a (suc n) zero lt = inl (omega arith)
in-range a (suc n) (suc j) lt =
    let same : a + 1 + j ≡ a + suc j = omega arith in
    inr (subst (λ k. In k (range_with_len (a + 1) n)) same (in-range (a + 1) n j (omega arith)))

range-in : (a n k : ℕ) → In k (range_with_len a n) → (a ≤ k) × (k < a + n)
range-in a zero k i = absurd i
range-in a (suc n) k (inl e) = (omega arith, omega arith)
range-in a (suc n) k (inr i) = let h = range-in (a + 1) n k i in let h0 = h.0 in let h1 = h.1 in (omega arith, omega arith)

pub in-map : {X Y : Type 0} (f : X → Y) (x : X) (xs : List X) → In x xs → In (f x) (map f xs)
in-map f x [] i = i
in-map f x (y ∷ ys) (inl e) = inl (ap f e)
in-map f x (y ∷ ys) (inr i) = inr (in-map f x ys i)

pub map-in : {X Y : Type 0} (f : X → Y) (y : Y) (xs : List X) → In y (map f xs) → (x : X) × In x xs × (f x ≡ y)
map-in f y [] i = absurd i
map-in f y (x ∷ xs) (inl e) = (x, inl refl, e)
map-in f y (x ∷ xs) (inr i) = let h = map-in f y xs i in (h.0, inr h.1, h.2)

-- ---- numbers of n bits

-- those whose bits are the first n ones, or begin with all of them
abbrev pub numbers_at : ℕ → List ℕ → List ℕ
numbers_at n bits = elim (nat_le n (length bits)) [
  | true ↦ number_of (take n bits) ∷ []
  | false ↦ map (λ k. number_of bits * 2 ^ (n - length bits) + k) (range_with_len 0 (2 ^ (n - length bits)))
]

module _ (n : ℕ) (bits : List ℕ) (are : AreBits bits) where
  abbrev AreNumbers : List ℕ → Type 0
  AreNumbers numbers =
      ((k : ℕ) → In k numbers → (k < 2 ^ n) × Agrees (bits_of n k) bits) × ((k : ℕ) → k < 2 ^ n → Agrees (bits_of n k) bits → In k numbers)

  whole-numbers : n ≤ length bits → AreNumbers (number_of (take n bits) ∷ [])
  whole-numbers le = (sound, complete) where
    count : length (take n bits) ≡ n
    count = omega (arith, length-take n bits)

    the-bits : bits_of n (number_of (take n bits)) ≡ take n bits
    the-bits = ap (λ m. bits_of m (number_of (take n bits))) (sym count) ∙ bits_of-number_of (take n bits) (AreBits-take n bits are)

    here : IsPrefix (bits_of n (number_of (take n bits))) bits
    here = ap (λ m. take m bits) (length-bits_of n (number_of (take n bits))) ∙ sym the-bits

    sound : (k : ℕ) → In k (number_of (take n bits) ∷ []) → (k < 2 ^ n) × Agrees (bits_of n k) bits
    sound k (inl e) =
        subst (λ j. (j < 2 ^ n) × Agrees (bits_of n j) bits) e
        (subst (λ m. number_of (take n bits) < 2 ^ m) count (number_of-below (take n bits) (AreBits-take n bits are)), inl here)
    sound k (inr i) = absurd i

    first : (k : ℕ) → Agrees (bits_of n k) bits → IsPrefix (bits_of n k) bits
    first k (inl p) = p
    first k (inr p) =
        let len = length-bits_of n k in
        let short : length bits ≤ length (bits_of n k) = omega (arith, ap length p, length-take (length bits) (bits_of n k)) in
        let same : bits ≡ bits_of n k = IsPrefix-whole bits (bits_of n k) (omega arith) p in
        subst (IsPrefix (bits_of n k)) (sym same) (take_all (length (bits_of n k)) (bits_of n k) (omega arith))

    complete : (k : ℕ) → k < 2 ^ n → Agrees (bits_of n k) bits → In k (number_of (take n bits) ∷ [])
    complete k lt agrees =
        inl (ap number_of (sym (ap (λ m. take m bits) (length-bits_of n k)) ∙ first k agrees) ∙ number_of-bits_of n k ∙ mod-eq_of_lt lt)

  module _ (lt : length bits < n) where
    abbrev missing : ℕ
    missing = n - length bits

    put : (j : ℕ) → j < 2 ^ missing → bits_of n (number_of bits * 2 ^ missing + j) ≡ bits ++ bits_of missing j
    put j small =
        let count : n ≡ length bits + missing = omega arith in
        ap (λ m. bits_of m (number_of bits * 2 ^ missing + j)) count
        ∙ bits_of-put (length bits) missing (number_of bits) j small
        ∙ ap (λ b. b ++ bits_of missing j) (bits_of-number_of bits are)

    -- the product of two bounds
    below-both : (v j a b : ℕ) → v < a → j < b → v * b + j < a * b
    below-both v j a b p q = let le : (v + 1) * b ≤ a * b = mul-le-mul_right b (omega arith) in omega arith

    within : (j : ℕ) → j < 2 ^ missing → number_of bits * 2 ^ missing + j < 2 ^ n
    within j small =
        let count : 2 ^ length bits * 2 ^ missing ≡ 2 ^ n = sym (pow-add 2 (length bits) missing) ∙ ap (λ m. 2 ^ m) (omega arith) in
        subst (λ m. number_of bits * 2 ^ missing + j < m) count (below-both (number_of bits) j (2 ^ length bits) (2 ^ missing) (number_of-below bits are) small)

    cut-sound : (k : ℕ) → In k (map (λ j. number_of bits * 2 ^ missing + j) (range_with_len 0 (2 ^ missing))) → (k < 2 ^ n) × Agrees (bits_of n k) bits
    cut-sound k i =
        let (j, there, e) = map-in (λ (j : ℕ). number_of bits * 2 ^ missing + j) k (range_with_len 0 (2 ^ missing)) i in
        let small : j < 2 ^ missing = let h = (range-in 0 (2 ^ missing) j there).1 in omega arith in
        subst (λ m. (m < 2 ^ n) × Agrees (bits_of n m) bits) e (within j small, inr (subst (IsPrefix bits) (sym (put j small)) (IsPrefix-append bits (bits_of missing j))))

    cut-complete : (k : ℕ) → k < 2 ^ n → Agrees (bits_of n k) bits → In k (map (λ j. number_of bits * 2 ^ missing + j) (range_with_len 0 (2 ^ missing)))
    cut-complete k small (inl p) =
        let long : length (bits_of n k) ≤ length bits = omega (arith, ap length p, length-take (length (bits_of n k)) bits) in
        absurd (omega (arith, length-bits_of n k))
    cut-complete k small (inr p) =
        let count : n ≡ length bits + missing = omega arith in
        let high : bits_of (length bits) (k / 2 ^ missing) ≡ bits =
        sym (take-bits_of (length bits) missing k) ∙ ap (λ m. take (length bits) (bits_of m k)) (sym count) ∙ p in
        let quotient : k / 2 ^ missing < 2 ^ length bits =
        (div-lt_iff_lt-mul (pow_pos missing)).1 (subst (λ m. k < m) (ap (λ m. 2 ^ m) count ∙ pow-add 2 (length bits) missing) small) in
        let value : number_of bits ≡ k / 2 ^ missing = ap number_of (sym high) ∙ number_of-bits_of (length bits) (k / 2 ^ missing) ∙ mod-eq_of_lt quotient in
        let rest : k % 2 ^ missing < 2 ^ missing = mod-lt k (pow_pos missing) in
        let whole : number_of bits * 2 ^ missing + k % 2 ^ missing ≡ k =
        ap (λ v. v * 2 ^ missing + k % 2 ^ missing) value ∙ ap (λ m. m + k % 2 ^ missing) (mul_comm (k / 2 ^ missing) (2 ^ missing)) ∙ div-add-mod k (2 ^ missing) in
        subst (λ m. In m (map (λ j. number_of bits * 2 ^ missing + j) (range_with_len 0 (2 ^ missing)))) whole
        (in-map (λ (j : ℕ). number_of bits * 2 ^ missing + j) (k % 2 ^ missing) (range_with_len 0 (2 ^ missing))
        (subst (λ m. In m (range_with_len 0 (2 ^ missing))) (zero-add (k % 2 ^ missing)) (in-range 0 (2 ^ missing) (k % 2 ^ missing) rest)))

  pub are-numbers : AreNumbers (numbers_at n bits)
  are-numbers = by_cases (nat_le n (length bits)) refl where
    by_cases : (b : Bool) → nat_le n (length bits) ≡ b → AreNumbers (elim b [
      | true ↦ number_of (take n bits) ∷ []
      | false ↦ map (λ k. number_of bits * 2 ^ (n - length bits) + k) (range_with_len 0 (2 ^ (n - length bits)))
    ])
    by_cases true e = whole-numbers (leb-true n (length bits) e)
    by_cases false e = let lt : length bits < n = leb-false n (length bits) e in (cut-sound lt, cut-complete lt)

-- ---- numbers behind a fixed front

abbrev pub numbers_behind : List ℕ → ℕ → List ℕ → List ℕ
numbers_behind front n bits = elim (begins front bits) [
  | true ↦ numbers_at n (drop (length front) bits)
  | false ↦ elim (begins bits front) [ true ↦ range_with_len 0 (2 ^ n) | false ↦ [] ]
]

module _ (front : List ℕ) (n : ℕ) (bits : List ℕ) (are : AreBits bits) where
  abbrev AreBehind : List ℕ → Type 0
  AreBehind numbers =
      ((k : ℕ) → In k numbers → (k < 2 ^ n) × Agrees (front ++ bits_of n k) bits) × ((k : ℕ) → k < 2 ^ n → Agrees (front ++ bits_of n k) bits → In k numbers)

  behind-whole : IsPrefix front bits → AreBehind (numbers_at n (drop (length front) bits))
  behind-whole p = (sound, complete) where
    rest : List ℕ
    rest = drop (length front) bits

    split : bits ≡ front ++ rest
    split = IsPrefix-split front bits p

    lemmas : ((k : ℕ) → In k (numbers_at n rest) → (k < 2 ^ n) × Agrees (bits_of n k) rest) × ((k : ℕ) → k < 2 ^ n → Agrees (bits_of n k) rest → In k (numbers_at n rest))
    lemmas = are-numbers n rest (AreBits-drop (length front) bits are)

    out : (c : List ℕ) → Agrees c rest → Agrees (front ++ c) bits
    out c (inl q) = inl (subst (IsPrefix (front ++ c)) (sym split) (IsPrefix-behind front c rest q))
    out c (inr q) = inr (subst (λ b. IsPrefix b (front ++ c)) (sym split) (IsPrefix-behind front rest c q))

    back : (c : List ℕ) → Agrees (front ++ c) bits → Agrees c rest
    back c (inl q) = inl (IsPrefix-without front c rest (subst (IsPrefix (front ++ c)) split q))
    back c (inr q) = inr (IsPrefix-without front rest c (subst (λ b. IsPrefix b (front ++ c)) split q))

    sound : (k : ℕ) → In k (numbers_at n rest) → (k < 2 ^ n) × Agrees (front ++ bits_of n k) bits
    sound k i = let h = lemmas.0 k i in (h.0, out (bits_of n k) h.1)

    complete : (k : ℕ) → k < 2 ^ n → Agrees (front ++ bits_of n k) bits → In k (numbers_at n rest)
    complete k lt a = lemmas.1 k lt (back (bits_of n k) a)

  behind-cut : IsPrefix bits front → AreBehind (range_with_len 0 (2 ^ n))
  behind-cut p = (
    (λ k i. (let h = (range-in 0 (2 ^ n) k i).1 in omega arith, inr (IsPrefix-through bits front (front ++ bits_of n k) p (IsPrefix-append front (bits_of n k))))),
    (λ k lt a. subst (λ m. In m (range_with_len 0 (2 ^ n))) (zero-add k) (in-range 0 (2 ^ n) k lt)),
  )

  behind-none : (IsPrefix front bits → ⊥) → (IsPrefix bits front → ⊥) → AreBehind []
  behind-none none none' = ((λ k i. absurd i), (λ k lt a. not_any k a)) where
    not_any : (k : ℕ) → Agrees (front ++ bits_of n k) bits → ⊥
    not_any k (inl p) = none (IsPrefix-through front (front ++ bits_of n k) bits (IsPrefix-append front (bits_of n k)) p)
    not_any k (inr p) = elim (IsPrefix-either front bits (front ++ bits_of n k) (IsPrefix-append front (bits_of n k)) p) [ inl q ↦ none q | inr q ↦ none' q ]

  pub are-behind : AreBehind (numbers_behind front n bits)
  are-behind = by_cases (begins front bits) (begins bits front) refl refl where
    by_cases : (a b : Bool) → begins front bits ≡ a → begins bits front ≡ b → AreBehind (elim a [
      | true ↦ numbers_at n (drop (length front) bits)
      | false ↦ elim b [ true ↦ range_with_len 0 (2 ^ n) | false ↦ [] ]
    ])
    by_cases true b e f = behind-whole (begins-true front bits e)
    by_cases false true e f = behind-cut (begins-true bits front f)
    by_cases false false e f =
        behind-none (λ p. both_ways (begins front bits) e (begins-from front bits p)) (λ p. both_ways (begins bits front) f (begins-from bits front p))
