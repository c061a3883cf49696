-- Zero bytes and a start code prefix behind them.
use Rattle.std.proofs.Common.{◌≡◌, ◌≢◌, ℕ, zero, suc, ◌+◌, ◌<◌, ◌≤◌, ◌⊎◌, inl, inr, List, [], ◌∷◌, ◌++◌, length, replicate, drop, get_or, slice_get, Some, refl, sym, ap, ◌∙◌, subst, arith}
use Rattle.std.proofs.lemmas.List.{append-nil, drop_more, drop_all}
use Rattle.program_stream.specs.Elements.{IsRefusedAt, no_start, IsEnd, zero_bytes}
use Rattle.program_stream.specs.declared.split_fault.SplitFault.TheVariants.{BadStart}
use Rattle.program_stream.specs.PassingElements.{KeepsTwo}
use Rattle.program_stream.specs.Private.Fronts.{IsBehind}

more : (n : ℕ) → suc n + 1 ≡ suc (n + 1)
more n = omega arith

-- one zero byte more
pub zeros_more : (xs : List ℕ) (n d : ℕ) → n < length xs → get_or xs n d ≡ 0 → xs ≡ replicate n 0 ++ drop n xs → xs ≡ replicate (n + 1) 0 ++ drop (n + 1) xs
zeros_more [] n d within is before = absurd (omega arith)
zeros_more (x ∷ xs) zero d within is before = ap (λ (y : ℕ). y ∷ xs) is
zeros_more (x ∷ xs) (suc n) d within is before =
    let first : x ≡ 0 = cc in
    let others : xs ≡ replicate n 0 ++ drop n xs = cc in
    let next : xs ≡ replicate (n + 1) 0 ++ drop (n + 1) xs = zeros_more xs n d (omega arith) is others in
    ap (λ (y : ℕ). y ∷ xs) first ∙ ap (λ (ys : List ℕ). 0 ∷ ys) next ∙ ap (λ (k : ℕ). replicate k 0 ++ drop k (x ∷ xs)) (sym (more n))

-- zero bytes and another byte: how many, and which
pub zeros_apart : (m n b c : ℕ) (xs ys : List ℕ) → b ≢ 0 → c ≢ 0 → replicate m 0 ++ b ∷ xs ≡ replicate n 0 ++ c ∷ ys → (m ≡ n) × (b ≡ c) × (xs ≡ ys)
zeros_apart zero zero b c xs ys some other is = (refl, cc, cc)
zeros_apart zero (suc n) b c xs ys some other is = absurd (some cc)
zeros_apart (suc m) zero b c xs ys some other is = absurd (other cc)
zeros_apart (suc m) (suc n) b c xs ys some other is =
    let rest : replicate m 0 ++ b ∷ xs ≡ replicate n 0 ++ c ∷ ys = cc in
    let parts = zeros_apart m n b c xs ys some other rest in
    (ap suc parts.0, parts.1, parts.2)

pub not_zeros : (m n b : ℕ) (xs : List ℕ) → b ≢ 0 → replicate m 0 ++ b ∷ xs ≡ replicate n 0 → ⊥
not_zeros zero zero b xs some is = cc
not_zeros zero (suc n) b xs some is = some cc
not_zeros (suc m) zero b xs some is = cc
not_zeros (suc m) (suc n) b xs some is = let rest : replicate m 0 ++ b ∷ xs ≡ replicate n 0 = cc in not_zeros m n b xs some rest

-- the prefix has two zero bytes of its own
pub two_more : (n : ℕ) (xs : List ℕ) → replicate n 0 ++ 0 ∷ 0 ∷ 1 ∷ xs ≡ replicate (n + 2) 0 ++ 1 ∷ xs
two_more zero xs = refl
two_more (suc n) xs = ap (λ (ys : List ℕ). 0 ∷ ys) (two_more n xs) ∙ ap (λ (k : ℕ). replicate k 0 ++ 1 ∷ xs) (same n)
  where
    same : (n : ℕ) → suc (n + 2) ≡ suc n + 2
    same n = omega arith

pub one_some : (n : ℕ) → n ≡ 1 → n ≢ 0
one_some n one is = omega arith

-- where it begins, if it stands behind so many zero bytes in all
pub prefix_place : (m n b : ℕ) (xs ys : List ℕ) → b ≢ 0 → replicate m 0 ++ b ∷ xs ≡ replicate n 0 ++ 0 ∷ 0 ∷ 1 ∷ ys → (m ≡ n + 2) × (b ≡ 1) × (xs ≡ ys)
prefix_place m n b xs ys some is = zeros_apart m (n + 2) b 1 xs ys some (one_some 1 refl) (is ∙ two_more n ys)

-- the byte behind the zero bytes
pub next_byte : (rest : List ℕ) (n d : ℕ) → n < length rest → rest ≡ replicate n 0 ++ drop n rest → rest ≡ replicate n 0 ++ get_or rest n d ∷ drop (n + 1) rest
next_byte rest n d within is = is ∙ ap (λ (xs : List ℕ). replicate n 0 ++ xs) (drop_more rest n d within)

-- other bytes than those of a prefix
pub no_start_there : (rest : List ℕ) (n b at : ℕ) (more : List ℕ) → rest ≡ replicate n 0 ++ b ∷ more → b ≢ 0 → (n < 2) ⊎ (b ≢ 1) → IsRefusedAt at rest (BadStart at)
no_start_there rest n b at more is some other = no_start (record {
  not_zeros = λ zeros zeros_are. not_zeros n zeros b more some (sym is ∙ zeros_are);
  no_prefix = λ zeros behind prefix_is. (let parts = prefix_place n zeros b more behind some (sym is ∙ prefix_is) in
      elim other [
        | inl few ↦ omega arith
        | inr not_one ↦ not_one parts.1
      ]);
}) refl

pub drop_zeros : (n : ℕ) (xs : List ℕ) → drop n (replicate n 0 ++ xs) ≡ xs
drop_zeros zero xs = refl
drop_zeros (suc n) xs = drop_zeros n xs

-- a prefix stands there
pub prefix_there : (rest : List ℕ) (n k b : ℕ) (more : List ℕ) → rest ≡ replicate n 0 ++ b ∷ more → b ≡ 1 → n ≡ k + 2 → drop k rest ≡ 0 ∷ 0 ∷ 1 ∷ more
prefix_there rest n k b more is one two =
    let all : rest ≡ replicate k 0 ++ 0 ∷ 0 ∷ 1 ∷ more = is ∙ ap (λ (c : ℕ). replicate n 0 ++ c ∷ more) one ∙ ap (λ (j : ℕ). replicate j 0 ++ 1 ∷ more) two ∙ sym (two_more k more) in
    ap (drop k) all ∙ drop_zeros k (0 ∷ 0 ∷ 1 ∷ more)

-- ---- zero bytes that are passed over

none_more : (n : ℕ) → n ≡ 0 + n
none_more n = omega arith

pub zeros_twice : (m n : ℕ) (xs : List ℕ) → replicate m 0 ++ (replicate n 0 ++ xs) ≡ replicate (m + n) 0 ++ xs
zeros_twice zero n xs = ap (λ (k : ℕ). replicate k 0 ++ xs) (none_more n)
zeros_twice (suc m) n xs = ap (λ (ys : List ℕ). 0 ∷ ys) (zeros_twice m n xs) ∙ ap (λ (k : ℕ). replicate k 0 ++ xs) (same m n)
  where
    same : (m n : ℕ) → suc (m + n) ≡ suc m + n
    same m n = omega arith

-- fewer of them
pub fewer_zeros : (bytes : List ℕ) (n k : ℕ) → k ≤ n → bytes ≡ replicate n 0 ++ drop n bytes → bytes ≡ replicate k 0 ++ drop k bytes
fewer_zeros bytes n zero few is = refl
fewer_zeros bytes zero (suc k) few is = absurd (omega arith)
fewer_zeros [] (suc n) (suc k) few is = absurd cc
fewer_zeros (x ∷ bytes) (suc n) (suc k) few is =
    let first : x ≡ 0 = cc in
    let others : bytes ≡ replicate n 0 ++ drop n bytes = cc in
    ap (λ (y : ℕ). y ∷ bytes) first ∙ ap (λ (ys : List ℕ). 0 ∷ ys) (fewer_zeros bytes n k (omega arith) others)

-- two of them are left
pub two_left : (bytes : List ℕ) (n k : ℕ) → n ≡ k + 2 → bytes ≡ replicate n 0 ++ drop n bytes → drop k bytes ≡ 0 ∷ 0 ∷ drop n bytes
two_left bytes n k two is =
    ap (drop k) (is ∙ ap (λ (j : ℕ). replicate j 0 ++ drop n bytes) two ∙ sym (zeros_twice k 2 (drop n bytes))) ∙ drop_zeros k (0 ∷ 0 ∷ drop n bytes)

of_three : (n : ℕ) (more : List ℕ) → n < 3 → slice_get (0 ∷ 0 ∷ 0 ∷ more) n ≡ Some 0
of_three zero more few = refl
of_three (suc zero) more few = refl
of_three (suc (suc zero)) more few = refl
of_three (suc (suc (suc n))) more few = absurd (omega arith)

third_zero : (bytes more : List ℕ) (n k j : ℕ) → n ≡ k + j → j < 3 → drop k bytes ≡ 0 ∷ 0 ∷ 0 ∷ more → slice_get bytes n ≡ Some 0
third_zero bytes more n zero j is few there = ap (λ (xs : List ℕ). slice_get xs n) there ∙ of_three n more (omega (arith, is, few))
third_zero [] more n (suc k) j is few there = absurd cc
third_zero (x ∷ bytes) more zero (suc k) j is few there = absurd (omega (arith, is))
third_zero (x ∷ bytes) more (suc n) (suc k) j is few there = third_zero bytes more n k j (omega (arith, is)) few there

-- all but the last two are passed over
pub all_but_two : (bytes : List ℕ) (n k : ℕ) → (0 < k → n ≡ k + 2) → k ≤ n → n ≤ k + 2 → slice_get bytes n ≢ Some 0 → bytes ≡ replicate n 0 ++ drop n bytes → IsBehind k (drop k bytes)
all_but_two bytes n k more_than_two least most end is = record {
  two = λ some. (drop n bytes, two_left bytes n k (more_than_two some) is);
  no_third = λ more there. end (third_zero bytes more n k (behind n k least most).0 (behind n k least most).1 (behind n k least most).2 there);
}
  where
    behind : (n k : ℕ) → k ≤ n → n ≤ k + 2 → (j : ℕ) × (n ≡ k + j) × (j < 3)
    behind n zero least most = (n, omega arith, omega (arith, most))
    behind zero (suc k) least most = absurd (omega (arith, least))
    behind (suc n) (suc k) least most = let j = behind n k (omega (arith, least)) (omega (arith, most)) in (j.0, omega (arith, j.1), j.2)

-- more of them are
pub more_behind : (m n : ℕ) (held rest after : List ℕ) → rest ≡ held → rest ≡ replicate n 0 ++ drop n rest → after ≡ drop n held → replicate (m + n) 0 ++ after ≡ replicate m 0 ++ held
more_behind m n held rest after rest_is front after_is =
    let there : held ≡ replicate n 0 ++ drop n held = subst (λ (xs : List ℕ). xs ≡ replicate n 0 ++ drop n xs) rest_is front in
    ap (λ (xs : List ℕ). replicate (m + n) 0 ++ xs) after_is ∙ sym (zeros_twice m n (drop n held)) ∙ ap (λ (xs : List ℕ). replicate m 0 ++ xs) (sym there)

pub still_behind : (m n : ℕ) (held rest after : List ℕ) → rest ≡ held → IsBehind n (drop n rest) → after ≡ drop n held → KeepsTwo m held → IsBehind (m + n) after
still_behind m zero held rest after rest_is behind after_is keeps = record {
  two = λ some. (let two = keeps (omega (arith, some)) in (two.0, after_is ∙ two.1));
  no_third = λ more is. behind.no_third more (rest_is ∙ sym after_is ∙ is);
}
still_behind m (suc n) held rest after rest_is behind after_is keeps = record {
  two = λ some. (let two = behind.two (omega arith) in (two.0, after_is ∙ ap (drop (suc n)) (sym rest_is) ∙ two.1));
  no_third = λ more is. behind.no_third more (ap (drop (suc n)) rest_is ∙ sym after_is ∙ is);
}

-- no more than two stand first
pub at_most_two : (rest : List ℕ) (n : ℕ) → ((more : List ℕ) → rest ≡ 0 ∷ 0 ∷ 0 ∷ more → ⊥) → rest ≡ replicate n 0 ++ drop n rest → n < 3
at_most_two rest zero no_third is = omega arith
at_most_two rest (suc zero) no_third is = omega arith
at_most_two rest (suc (suc zero)) no_third is = omega arith
at_most_two rest (suc (suc (suc n))) no_third is = absurd (no_third (replicate n 0 ++ drop (suc (suc (suc n))) rest) is)

-- where fewer stand first, none were passed over
none_before : (zeros n b : ℕ) (rest more : List ℕ) → KeepsTwo zeros rest → rest ≡ replicate n 0 ++ b ∷ more → b ≢ 0 → n < 2 → zeros ≡ 0
none_before zero n b rest more keeps is some few = refl
none_before (suc count) n b rest more keeps is some few = let two = keeps (omega arith) in absurd (not_two n b two.0 more some few (sym two.1 ∙ is))
  where
    not_two : (n b : ℕ) (xs ys : List ℕ) → b ≢ 0 → n < 2 → 0 ∷ 0 ∷ xs ≡ replicate n 0 ++ b ∷ ys → ⊥
    not_two zero b xs ys some few is = some cc
    not_two (suc zero) b xs ys some few is = some cc
    not_two (suc (suc n)) b xs ys some few is = omega (arith, few)

-- other bytes than those of a prefix
pub no_start_behind : (zeros n b at : ℕ) (rest more : List ℕ) → KeepsTwo zeros rest → rest ≡ replicate n 0 ++ b ∷ more → b ≢ 0 → (n < 2) ⊎ (b ≢ 1) →
    IsRefusedAt at (replicate zeros 0 ++ rest) (BadStart at)
no_start_behind count n b at rest more keeps is some other =
    no_start_there (replicate count 0 ++ rest) (count + n) b at more (ap (λ (xs : List ℕ). replicate count 0 ++ xs) is ∙ zeros_twice count n (b ∷ more)) some
    (elim other [
      | inl few ↦ inl (omega (arith, none_before count n b rest more keeps is some few, few))
      | inr not_one ↦ inr not_one
    ])

-- zero bytes alone
pub zeros_behind : (zeros n : ℕ) (rest : List ℕ) → n ≡ length rest → rest ≡ replicate n 0 ++ drop n rest → IsEnd (replicate zeros 0 ++ rest) 0
zeros_behind count n rest end is = zero_bytes (count + n)
    (ap (λ (xs : List ℕ). replicate count 0 ++ xs) is ∙ zeros_twice count n (drop n rest) ∙ ap (λ (xs : List ℕ). replicate (count + n) 0 ++ xs) (drop_all n rest (omega arith))
    ∙ append-nil (replicate (count + n) 0)) refl
