-- Sums of numbers next to each other.
use Rattle.std.proofs.Common.{◌≡◌, ℕ, zero, suc, ◌+◌, ◌-◌, ◌*◌, ◌/◌, ◌%◌, ◌<◌, ◌≤◌, cond, nat_lt, refl, ap, subst, inl, inr, arith}
use Rattle.std.proofs.lemmas.Bool.{cases_eq, cases_lt, eq-eqb, le-ltb, lt-ltb, ne_eqb}
use Rattle.sum_tree.specs.Nodes.{grown, pairs, sum_from}

-- one number more
pub sum-more : (number : ℕ → ℕ) (count : ℕ) → sum_from number 0 (count + 1) ≡ sum_from number 0 count + number count
sum-more number count =
    let next : count + 1 ≡ suc count = omega arith in
    let own : number (0 + count) ≡ number count = ap number (omega arith) in
    omega (arith, ap (sum_from number 0) next, own)

pub sum-same : (number other : ℕ → ℕ) (count : ℕ) → ((k : ℕ) → number k ≡ other k) → sum_from number 0 count ≡ sum_from other 0 count
sum-same number other zero same = refl
sum-same number other (suc count) same = omega (arith, sum-same number other count same, same (0 + count))

-- sums of more numbers are no less
sum-rise : (number : ℕ → ℕ) (count more : ℕ) → sum_from number 0 count ≤ sum_from number 0 (count + more)
sum-rise number count zero =
    let same : sum_from number 0 (count + 0) ≡ sum_from number 0 count = ap (sum_from number 0) (omega arith) in
    omega (arith, same)
sum-rise number count (suc more) =
    let size : count + suc more ≡ suc (count + more) = omega arith in
    omega (arith, sum-rise number count more, ap (sum_from number 0) size)

pub sum-le : (number : ℕ → ℕ) (count all : ℕ) → count ≤ all → sum_from number 0 count ≤ sum_from number 0 all
sum-le number count all le =
    let whole : count + (all - count) ≡ all = omega arith in
    subst (λ n. sum_from number 0 count ≤ sum_from number 0 n) whole (sum-rise number count (all - count))

pub number-le : (number : ℕ → ℕ) (at all : ℕ) → at < all → number at ≤ sum_from number 0 all
number-le number at all low = omega (arith, sum-more number at, sum-le number (at + 1) all (omega arith))

-- two by two
pub sum-pairs : (number : ℕ → ℕ) (count : ℕ) → sum_from (pairs number) 0 count ≡ sum_from number 0 (2 * count)
sum-pairs number zero = refl
sum-pairs number (suc count) =
    let next : 2 * suc count ≡ suc (suc (2 * count)) = omega arith in
    let first : number (2 * (0 + count)) ≡ number (0 + 2 * count) = ap number (omega arith) in
    let second : number (2 * (0 + count) + 1) ≡ number (0 + suc (2 * count)) = ap number (omega arith) in
    let split : sum_from number 0 (2 * suc count) ≡ (sum_from number 0 (2 * count) + number (0 + 2 * count)) + number (0 + suc (2 * count)) = ap (sum_from number 0) next in
    omega (arith, sum-pairs number count, first, second, split)

pub pairs-odd : (number : ℕ → ℕ) (at : ℕ) → at % 2 ≡ 1 → sum_from number 0 at ≡ sum_from (pairs number) 0 (at / 2) + number (2 * (at / 2))
pairs-odd number at odd =
    let last : at ≡ 2 * (at / 2) + 1 = omega (arith, odd) in
    omega (arith, ap (sum_from number 0) last, sum-more number (2 * (at / 2)), sum-pairs number (at / 2))

pub pairs-even : (number : ℕ → ℕ) (at : ℕ) → (at % 2 ≡ 1 → ⊥) → sum_from number 0 at ≡ sum_from (pairs number) 0 (at / 2)
pairs-even number at even =
    let same : at ≡ 2 * (at / 2) = omega (arith, even) in
    omega (arith, ap (sum_from number 0) same, sum-pairs number (at / 2))

-- ---- where one number grew
pub grown-own : (number : ℕ → ℕ) (place amount at : ℕ) → at ≡ place → grown number place amount at ≡ number at + amount
grown-own number place amount at here = rw (eq-eqb at place here) refl

pub grown-other : (number : ℕ → ℕ) (place amount at : ℕ) → (at ≡ place → ⊥) → grown number place amount at ≡ number at
grown-other number place amount at apart = rw (ne_eqb at place apart) (omega arith)

pub sum-grown : (number : ℕ → ℕ) (place amount count : ℕ) → sum_from (grown number place amount) 0 count ≡ sum_from number 0 count + cond (nat_lt place count) amount 0
sum-grown number place amount zero =
    let none : cond (nat_lt place 0) amount 0 ≡ 0 = rw (le-ltb place 0 (omega arith)) refl in
    omega (arith, none)
sum-grown number place amount (suc count) =
    let before = sum-grown number place amount count in
    elim (cases_eq (0 + count) place) as (λ _. sum_from (grown number place amount) 0 (suc count) ≡ sum_from number 0 (suc count) + cond (nat_lt place (suc count)) amount 0) [
      | inl here ↦
          (let added : cond (nat_lt place (suc count)) amount 0 ≡ amount = rw (lt-ltb place (suc count) (omega arith)) refl in
          let none : cond (nat_lt place count) amount 0 ≡ 0 = rw (le-ltb place count (omega arith)) refl in
          omega (arith, before, added, none, grown-own number place amount (0 + count) here))
      | inr other ↦
          (let same : cond (nat_lt place (suc count)) amount 0 ≡ cond (nat_lt place count) amount 0 =
          elim (cases_lt place count) as (λ _. cond (nat_lt place (suc count)) amount 0 ≡ cond (nat_lt place count) amount 0) [
            | inl low ↦ rw (lt-ltb place count low, lt-ltb place (suc count) (omega arith)) refl
            | inr high ↦ rw (le-ltb place count high, le-ltb place (suc count) (omega arith)) refl
          ] in
          omega (arith, before, same, grown-other number place amount (0 + count) other))
    ]

-- two by two, the sum of two grew of which one did
pub pairs-grown : (number : ℕ → ℕ) (place amount at : ℕ) → grown (pairs number) (place / 2) amount at ≡ pairs (grown number place amount) at
pairs-grown number place amount at = elim (cases_eq at (place / 2)) as (λ _. grown (pairs number) (place / 2) amount at ≡ pairs (grown number place amount) at) [
  | inl here ↦ (elim (cases_eq (2 * at) place) as (λ _. grown (pairs number) (place / 2) amount at ≡ pairs (grown number place amount) at) [
    | inl first ↦
        omega (
          arith,
          grown-own (pairs number) (place / 2) amount at here,
          grown-own number place amount (2 * at) first,
          grown-other number place amount (2 * at + 1) (λ e. omega (arith, e, first)),
        )
    | inr second ↦
        omega (
          arith,
          grown-own (pairs number) (place / 2) amount at here,
          grown-other number place amount (2 * at) second,
          grown-own number place amount (2 * at + 1) (omega (arith, here, second)),
        )
  ])
  | inr apart ↦
      omega (
        arith,
        grown-other (pairs number) (place / 2) amount at apart,
        grown-other number place amount (2 * at) (λ e. apart (omega (arith, e))),
        grown-other number place amount (2 * at + 1) (λ e. apart (omega (arith, e))),
      )
]
