-- The free slots of a window, counted by periods of the timetable.
use Rattle.std.proofs.Common.{
  ◌≡◌,
  ℕ,
  zero,
  suc,
  ◌+◌,
  ◌-◌,
  ◌*◌,
  ◌/◌,
  ◌%◌,
  ◌<◌,
  ◌≤◌,
  Bool,
  true,
  false,
  cond,
  eqb,
  leb,
  ltb,
  nat_le,
  ◌&&◌,
  length,
  min,
  Option,
  Some,
  None,
  is_none,
  if◌then◌else◌,
  refl,
  sym,
  ap,
  ◌∙◌,
  inl,
  inr,
  mul-le-mul_right,
  suc-mul,
  add-zero,
  div-add-mod',
  zero-mul,
  arith,
}
use Rattle.std.specs.List.{range_with_len}
use Rattle.std.specs.Int.{div_ceil}
use Rattle.std.proofs.lemmas.Bool.{cases_lt, cases_eq, cond-true, cond-false, ne_eqb, eq-eqb, le-leb, lt-leb, lt-ltb, le-ltb, and_left, and_right}
use Rattle.std.proofs.lemmas.Nat.{le-div, mod-mul-add, mod_below}
use Rattle.std.proofs.lemmas.List.Sums.{count_by-le-length}
use Rattle.std.proofs.lemmas.List.FromFn.{length-range_with_len}
use Rattle.stream_constants.specs.declared.decoder.TheConstants.{HOLD_TICKS}
use Rattle.version_table.specs.declared.table.Table.{Table}
use Rattle.slot_rule.specs.Timetable.{period, reserved, reserved_at}
use Rattle.slot_rule.specs.declared.sent.Sent.{Sent}
use Rattle.slot_rule.specs.declared.sent.Sent.TheVariants.{Pat, Pmt, Pcr}
use Rattle.dual_bounds.specs.declared.constants.TheConstants.{MARGIN_TICKS}
use Rattle.dual_bounds.specs.Room.{free_below, free_slots, serves}
use Rattle.dual_bounds.proofs.Ranges.{count_below, count_below-more, count_below-rises}

-- ---- a slot is free behind the reserved ones of its period
free_place : (programs offset : ℕ) → is_none (reserved_at programs offset) ≡ ltb (2 * programs) offset
free_place programs offset =
    let pcr : Option Sent = if nat_le offset (2 * programs) then Some (Pcr (offset - programs - 1)) else None in
    let pmt : Option Sent = if nat_le offset programs then Some (Pmt (offset - 1)) else pcr in
    elim (cases_eq offset 0) as (λ _. is_none (reserved_at programs offset) ≡ ltb (2 * programs) offset) [
      | inl first ↦ ap is_none (cond-true (eqb offset 0) (Some Pat) pmt (eq-eqb offset 0 first)) ∙ sym (le-ltb (2 * programs) offset (omega arith))
      | inr later ↦ ap is_none (cond-false (eqb offset 0) (Some Pat) pmt (ne_eqb offset 0 later)) ∙ elim (cases_lt programs offset) as (λ _. is_none pmt ≡ ltb (2 * programs) offset) [
        | inr of_pmt ↦ ap is_none (cond-true (leb offset programs) (Some (Pmt (offset - 1))) pcr (le-leb offset programs of_pmt)) ∙ sym (le-ltb (2 * programs) offset (omega arith))
        | inl past ↦ ap is_none (cond-false (leb offset programs) (Some (Pmt (offset - 1))) pcr (lt-leb offset programs past)) ∙ elim (cases_lt (2 * programs) offset) as (λ
            _. is_none pcr ≡ ltb (2 * programs) offset) [
              | inr of_pcr ↦ ap is_none (cond-true (leb offset (2 * programs)) (Some (Pcr (offset - programs - 1))) None
                  (le-leb offset (2 * programs) of_pcr)) ∙ sym (le-ltb (2 * programs) offset of_pcr)
              | inl free ↦ ap is_none (cond-false (leb offset (2 * programs)) (Some (Pcr (offset - programs - 1))) None (lt-leb offset (2 * programs) free)) ∙ sym (lt-ltb (2 * programs) offset free)
            ]
      ]
    ]

-- ---- a test that passes behind so many first places of each period
one_of : (below place : ℕ) → cond (ltb below place) 1 0 + (place - (below + 1)) ≡ suc place - (below + 1)
one_of below place = elim (cases_lt below place) as (λ _. cond (ltb below place) 1 0 + (place - (below + 1)) ≡ suc place - (below + 1)) [
  | inl past ↦ rw (lt-ltb below place past) (omega arith)
  | inr not_yet ↦ rw (le-ltb below place not_yet) (omega arith)
]

module _ (test : ℕ → Bool) (p below : ℕ) (passes : (n : ℕ) → test n ≡ ltb below (n % p)) where
  in_period : (q whole : ℕ) → count_below test (q * p) ≡ whole → (r : ℕ) → r ≤ p → count_below test (q * p + r) ≡ whole + (r - (below + 1))
  in_period q whole before zero fits =
      let none : 0 - (below + 1) ≡ 0 = omega arith in
      omega (arith, ap (count_below test) (add-zero (q * p)))
  in_period q whole before (suc r) fits =
      let next : q * p + suc r ≡ suc (q * p + r) = omega arith in
      let place : test (q * p + r) ≡ ltb below r = passes (q * p + r) ∙ ap (ltb below) (mod-mul-add q p r fits) in
      let here : cond (test (q * p + r)) 1 0 ≡ cond (ltb below r) 1 0 = ap {B = ℕ} (λ b. cond b 1 0) place in
      omega (arith, ap (count_below test) next, count_below-more test (q * p + r), in_period q whole before r (omega arith), one_of below r)

  periods : (q : ℕ) → count_below test (q * p) ≡ q * (p - (below + 1))
  periods zero = ap (count_below test) (zero-mul p) ∙ sym (zero-mul (p - (below + 1)))
  periods (suc q) =
      let size : suc q * p ≡ q * p + p = suc-mul q p in
      ap (count_below test) size ∙ in_period q (q * (p - (below + 1))) (periods q) p (omega arith) ∙ sym (suc-mul q (p - (below + 1)))

  pub count-by_periods : 1 ≤ p → (n : ℕ) → count_below test n ≡ n / p * (p - (below + 1)) + (n % p - (below + 1))
  count-by_periods some n =
      let whole : n / p * p + n % p ≡ n = div-add-mod' n p in
      ap (count_below test) (sym whole) ∙ in_period (n / p) (n / p * (p - (below + 1))) (periods (n / p)) (n % p) (omega (arith, mod_below n p some))

-- the free slots below n
pub free_below-is : (table : Table) (n p : ℕ) → p ≡ period table.slot → 1 ≤ p
    → free_below table n ≡ n / p * (p - (2 * length table.programs + 1)) + (n % p - (2 * length table.programs + 1))
unfolding free_below
free_below-is table n p p_is some =
    let programs = length table.programs in
    count-by_periods (λ k. is_none (reserved table.slot programs k)) p (2 * programs)
    (λ k. (free_place programs (k % period table.slot) ∙ ap (λ m. ltb (2 * programs) (k % m)) (sym p_is))) some n

pub free_below-le : (table : Table) (n : ℕ) → free_below table n ≤ n
unfolding free_below
free_below-le table n = omega (arith, count_by-le-length (λ k. is_none (reserved table.slot (length table.programs) k)) (range_with_len 0 n), length-range_with_len 0 n)

-- ---- what passes only between two numbers, and there as another test
pub count-between : (test free : ℕ → Bool) (low high : ℕ) → ((k : ℕ) → k < low → test k ≡ false) → ((k : ℕ) → high ≤ k → test k ≡ false)
    → ((k : ℕ) → low ≤ k → k < high → test k ≡ free k) → (n : ℕ) → count_below test n ≡ count_below free (min n high) - count_below free low
count-between test free low high early late between zero = (let none : min 0 high ≡ 0 = omega arith in omega (arith, ap (count_below free) none))
count-between test free low high early late between (suc n) =
    let before = count-between test free low high early late between n in
    let more = count_below-more test n in
    elim (cases_lt n high) as (λ _. count_below test (suc n) ≡ count_below free (min (suc n) high) - count_below free low) [
      | inr past ↦
          (let same : min (suc n) high ≡ min n high = omega arith in
          let none : cond {A = ℕ} (test n) 1 0 ≡ 0 = ap {B = ℕ} (λ b. cond b 1 0) (late n past) in
          omega (arith, ap (count_below free) same))
      | inl inside ↦
          (let now : min n high ≡ n = omega arith in
          let next : min (suc n) high ≡ suc n = omega arith in
          let one = count_below-more free n in
          elim (cases_lt n low) as (λ _. count_below test (suc n) ≡ count_below free (min (suc n) high) - count_below free low) [
            | inl below ↦
                (let none : cond {A = ℕ} (test n) 1 0 ≡ 0 = ap {B = ℕ} (λ b. cond b 1 0) (early n below) in
                let size : suc n + (low - suc n) ≡ low = omega arith in
                omega (arith, ap (count_below free) now, ap (count_below free) next, count_below-rises free (suc n) (low - suc n), ap (count_below free) size))
            | inr from ↦
                (let own : cond {A = ℕ} (test n) 1 0 ≡ cond {A = ℕ} (free n) 1 0 = ap {B = ℕ} (λ b. cond b 1 0) (between n from inside) in
                let size : low + (n - low) ≡ n = omega arith in
                omega (arith, ap (count_below free) now, ap (count_below free) next, count_below-rises free low (n - low), ap (count_below free) size))
          ])
    ]

-- ---- the first slot of the window, and the slot that it ends with
ceil_above : (x s n : ℕ) → 1 ≤ s → n < div_ceil x s → n * s < x
ceil_above x s n some below =
    let q = x / s in
    let whole : x / s * s + x % s ≡ x = div-add-mod' x s in
    elim (cases_eq (x % s) 0) as (λ _. n * s < x) [
      | inl even ↦ (let more : (n + 1) * s ≤ q * s = mul-le-mul_right s (omega arith) in omega arith)
      | inr rest ↦ (let most : n * s ≤ q * s = mul-le-mul_right s (omega arith) in omega arith)
    ]

ceil_upto : (x s n : ℕ) → 1 ≤ s → div_ceil x s ≤ n → x ≤ n * s
ceil_upto x s n some from =
    let q = x / s in
    let whole : x / s * s + x % s ≡ x = div-add-mod' x s in
    elim (cases_eq (x % s) 0) as (λ _. x ≤ n * s) [
      | inl even ↦ (let most : q * s ≤ n * s = mul-le-mul_right s (omega arith) in omega arith)
      | inr rest ↦ (let more : (q + 1) * s ≤ n * s = mul-le-mul_right s (omega arith) in omega (arith, mod_below x s some))
    ]

floor_below : (x s n : ℕ) → 1 ≤ s → n < x / s → (n + 1) * s ≤ x
floor_below x s n some below =
    let whole : x / s * s + x % s ≡ x = div-add-mod' x s in
    let most : (n + 1) * s ≤ x / s * s = mul-le-mul_right s (omega arith) in
    omega arith

floor_upto : (x s n : ℕ) → 1 ≤ s → x / s ≤ n → x < (n + 1) * s
floor_upto x s n some from =
    let whole : x / s * s + x % s ≡ x = div-add-mod' x s in
    let most : (x / s + 1) * s ≤ (n + 1) * s = mul-le-mul_right s (omega arith) in
    omega (arith, mod_below x s some)

-- the free slots of the window are those below its end less those below its beginning
pub free_slots-is : (table : Table) (from due : ℕ) → 1 ≤ table.slot
    → free_slots table from due ≡ free_below table ((due - MARGIN_TICKS) / table.slot) - free_below table (div_ceil (from - HOLD_TICKS) table.slot)
unfolding free_slots free_below serves
free_slots-is table from due some =
    let slot = table.slot in
    let low = div_ceil (from - HOLD_TICKS) slot in
    let high = (due - MARGIN_TICKS) / slot in
    let free : ℕ → Bool = λ k. is_none (reserved slot (length table.programs) k) in
    let begins : ℕ → Bool = λ k. nat_le from (k * slot + HOLD_TICKS) in
    let ends : ℕ → Bool = λ k. nat_le ((k + 1) * slot + MARGIN_TICKS) due in
    let fewer : high ≤ due / slot = le-div high (due) slot some (let low' = floor_le (due - MARGIN_TICKS) slot in omega arith) in
    let all : min (due / slot) high ≡ high = omega arith in
    count-between (serves table from due) free low high
    (λ k early. and_left (free k && begins k) (ends k) (and_right (free k) (begins k) (lt-leb from (k * slot + HOLD_TICKS) (let x = ceil_above (from - HOLD_TICKS) slot k some early in omega arith))))
    (λ k late. and_right (free k && begins k) (ends k) (lt-leb ((k + 1) * slot + MARGIN_TICKS) due (let x = floor_upto (due - MARGIN_TICKS) slot k some late in omega arith)))
    (λ k from' before.
    let x = ceil_upto (from - HOLD_TICKS) slot k some from' in
    let y = floor_below (due - MARGIN_TICKS) slot k some before in
    rw (le-leb from (k * slot + HOLD_TICKS) (omega arith), le-leb ((k + 1) * slot + MARGIN_TICKS) due (omega (arith, y_some k slot some))) (always (free k)))
    (due / slot)
    ∙ ap (λ n. count_below free n - count_below free low) all
  where
    always : (b : Bool) → ((b && true) && true) ≡ b
    always true = refl
    always false = refl

    y_some : (k s : ℕ) → 1 ≤ s → 1 ≤ (k + 1) * s
    y_some k s some' = (let more : 1 * s ≤ (k + 1) * s = mul-le-mul_right s (omega arith) in omega arith)

    floor_le : (x s : ℕ) → x / s * s ≤ x
    floor_le x s = (let whole : x / s * s + x % s ≡ x = div-add-mod' x s in omega arith)
