-- Where a slot is free, so are those after it in its period.
use Rattle.std.proofs.Common.{
  ◌≡◌,
  ℕ,
  ◌+◌,
  ◌-◌,
  ◌*◌,
  ◌/◌,
  ◌%◌,
  ◌<◌,
  ◌≤◌,
  Bool,
  true,
  false,
  eqb,
  leb,
  nat_le,
  if◌then◌else◌,
  Option,
  Some,
  None,
  refl,
  sym,
  ap,
  subst,
  ◌∙◌,
  inl,
  inr,
  mul-le-mul_right,
  ne_eqb,
  arith,
}
use Rattle.std.proofs.Math.Nat.{div-add-mod}
use Rattle.std.proofs.lemmas.Bool.{cases_lt, cond-false, leb-false, lt-leb}
use Rattle.std.proofs.lemmas.Option.{none-some}
use Rattle.slot_rule.specs.declared.sent.Sent.{Sent}
use Rattle.slot_rule.specs.declared.sent.Sent.TheVariants.{Pat, Pmt, Pcr}
use Rattle.slot_rule.specs.Timetable.{period, reserved, reserved_at}

-- a slot of a period has that period's number
same_period : (q r p m : ℕ) → q * p ≤ m → m < (q + 1) * p → r * p ≤ m → m < r * p + p → r ≡ q
same_period q r p m from upto from' upto' =
    elim (cases_lt r q) as (λ _. r ≡ q) [
      | inl below ↦ (let less : (r + 1) * p ≤ q * p = mul-le-mul_right p (omega arith) in absurd (omega arith))
      | inr least ↦ elim (cases_lt q r) as (λ _. r ≡ q) [
        | inl above ↦ (let more : (q + 1) * p ≤ r * p = mul-le-mul_right p (omega arith) in absurd (omega arith))
        | inr most ↦ omega arith
      ]
    ]

-- the place in a period of a later slot of it
place_later : (n m p : ℕ) → 1 ≤ p → n ≤ m → m < (n / p + 1) * p → n % p ≤ m % p
place_later n m p some from upto =
    let whole : p * (n / p) + n % p ≡ n = div-add-mod n p in
    let whole' : p * (m / p) + m % p ≡ m = div-add-mod m p in
    let within : m % p < p = omega arith in
    let same : m / p ≡ n / p = same_period (n / p) (m / p) p m (omega arith) upto (omega arith) (omega arith) in
    let times : p * (m / p) ≡ p * (n / p) = ap (λ k. p * k) same in
    omega arith

none_if : (b : Bool) (own : Sent) (rest : Option Sent) → (if b then Some own else rest) ≡ None → (b ≡ false) × (rest ≡ None)
none_if true own rest e = absurd (none-some own (sym e))
none_if false own rest e = (refl, e)

-- a slot is free exactly where its place is past the reserved ones
free_at : (programs offset : ℕ) → reserved_at programs offset ≡ None → 2 * programs < offset
free_at programs offset free =
    let pcr : Option Sent = if nat_le offset (2 * programs) then Some (Pcr (offset - programs - 1)) else None in
    let pmt : Option Sent = if nat_le offset programs then Some (Pmt (offset - 1)) else pcr in
    let first = none_if (eqb offset 0) Pat pmt free in
    let second = none_if (leb offset programs) (Pmt (offset - 1)) pcr first.1 in
    let third = none_if (leb offset (2 * programs)) (Pcr (offset - programs - 1)) None second.1 in
    omega (arith, leb-false offset (2 * programs) third.0)

at_free : (programs offset : ℕ) → 2 * programs < offset → reserved_at programs offset ≡ None
at_free programs offset past =
    let pcr : Option Sent = if nat_le offset (2 * programs) then Some (Pcr (offset - programs - 1)) else None in
    let pmt : Option Sent = if nat_le offset programs then Some (Pmt (offset - 1)) else pcr in
    cond-false (eqb offset 0) (Some Pat) pmt (ne_eqb offset 0 (λ e. absurd (omega arith)))
    ∙ cond-false (leb offset programs) (Some (Pmt (offset - 1))) pcr (lt-leb offset programs (omega arith))
    ∙ cond-false (leb offset (2 * programs)) (Some (Pcr (offset - programs - 1))) None (lt-leb offset (2 * programs) past)

pub free_later : (slot programs n m p : ℕ) → p ≡ period slot → 1 ≤ p → n ≤ m → m < (n / p + 1) * p → reserved slot programs n ≡ None → reserved slot programs m ≡ None
free_later slot programs n m p p_is some from upto free =
    let place : n % period slot ≤ m % period slot = subst (λ k. n % k ≤ m % k) p_is (place_later n m p some from upto) in
    let low = free_at programs (n % period slot) free in
    at_free programs (m % period slot) (omega arith)
