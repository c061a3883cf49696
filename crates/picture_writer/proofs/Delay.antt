-- The bits of vbv_delay set in three bytes.
use Rattle.std.proofs.Common.{◌≡◌, ◌≢◌, ◌⊎◌, ◌+◌, ◌-◌, ◌*◌, ◌/◌, ◌%◌, ◌^◌, ◌<◌, ◌≤◌, ℕ, zero, suc, List, length, get_or, set, refl, sym, ap, inl, inr, ◌∙◌, arith}
use Rattle.std.proofs.lemmas.Bool.{cases_lt}
use Rattle.std.proofs.lemmas.List.{get_or-set_same, get_or-set_other, length-set}
use Rattle.bit_lists.specs.Fields.{bit}
use Rattle.bit_lists.proofs.FieldLemmas.{bit-byte}
use Rattle.picture_writer.specs.VbvDelay.{SetsDelay}

-- ---- a bit of each of the bytes

first_kept : (x j : ℕ) → j < 5 → (x / 8 * 8 + 7) / 2 ^ (7 - j) % 2 ≡ x / 2 ^ (7 - j) % 2
first_kept x zero lt = omega arith
first_kept x (suc zero) lt = omega arith
first_kept x (suc (suc zero)) lt = omega arith
first_kept x (suc (suc (suc zero))) lt = omega arith
first_kept x (suc (suc (suc (suc zero)))) lt = omega arith
first_kept x (suc (suc (suc (suc (suc j))))) lt = absurd (omega arith)

first_set : (x k : ℕ) → k < 3 → (x / 8 * 8 + 7) / 2 ^ k % 2 ≡ 1
first_set x zero lt = omega arith
first_set x (suc zero) lt = omega arith
first_set x (suc (suc zero)) lt = omega arith
first_set x (suc (suc (suc k))) lt = absurd (omega arith)

second_set : (k : ℕ) → k < 8 → 255 / 2 ^ k % 2 ≡ 1
second_set zero lt = refl
second_set (suc zero) lt = refl
second_set (suc (suc zero)) lt = refl
second_set (suc (suc (suc zero))) lt = refl
second_set (suc (suc (suc (suc zero)))) lt = refl
second_set (suc (suc (suc (suc (suc zero))))) lt = refl
second_set (suc (suc (suc (suc (suc (suc zero)))))) lt = refl
second_set (suc (suc (suc (suc (suc (suc (suc zero))))))) lt = refl
second_set (suc (suc (suc (suc (suc (suc (suc (suc k)))))))) lt = absurd (omega arith)

third_set : (y j : ℕ) → j < 5 → (248 + y % 8) / 2 ^ (7 - j) % 2 ≡ 1
third_set y zero lt = omega arith
third_set y (suc zero) lt = omega arith
third_set y (suc (suc zero)) lt = omega arith
third_set y (suc (suc (suc zero))) lt = omega arith
third_set y (suc (suc (suc (suc zero)))) lt = omega arith
third_set y (suc (suc (suc (suc (suc j))))) lt = absurd (omega arith)

third_kept : (y k : ℕ) → k < 3 → (248 + y % 8) / 2 ^ k % 2 ≡ y / 2 ^ k % 2
third_kept y zero lt = omega arith
third_kept y (suc zero) lt = omega arith
third_kept y (suc (suc zero)) lt = omega arith
third_kept y (suc (suc (suc k))) lt = absurd (omega arith)

-- ---- all bits

module _ (old new : List ℕ) (at : ℕ) (same_length : length new ≡ length old)
    (first : get_or new (at + 5) 0 ≡ get_or old (at + 5) 0 / 8 * 8 + 7)
    (second : get_or new (at + 6) 0 ≡ 255)
    (third : get_or new (at + 7) 0 ≡ 248 + get_or old (at + 7) 0 % 8)
    (others : (i : ℕ) → i ≢ at + 5 → i ≢ at + 6 → i ≢ at + 7 → get_or new i 0 ≡ get_or old i 0) where
  at_byte : (bytes : List ℕ) (i q : ℕ) (x : ℕ) → i / 8 ≡ q → get_or bytes q 0 ≡ x → bit bytes i ≡ x / 2 ^ (7 - i % 8) % 2
  at_byte bytes i q x is value = bit-byte bytes i q (i % 8) (omega arith) (omega arith) ∙ ap (λ (n : ℕ). n / 2 ^ (7 - i % 8) % 2) value

  is_set : (i : ℕ) → 8 * (at + 4) + 13 ≤ i → i < 8 * (at + 4) + 13 + 16 → bit new i ≡ 1
  is_set i from to = elim (cases_lt (i / 8) (at + 6)) [
    | inl one ↦ at_byte new i (at + 5) _ (omega arith) first ∙ first_set (get_or old (at + 5) 0) (7 - i % 8) (omega arith)
    | inr more ↦ elim (cases_lt (i / 8) (at + 7)) [
      | inl two ↦ at_byte new i (at + 6) _ (omega arith) second ∙ second_set (7 - i % 8) (omega arith)
      | inr three ↦ at_byte new i (at + 7) _ (omega arith) third ∙ third_set (get_or old (at + 7) 0) (i % 8) (omega arith)
    ]
  ]

  is_kept : (i : ℕ) → (i < 8 * (at + 4) + 13) ⊎ (8 * (at + 4) + 13 + 16 ≤ i) → bit new i ≡ bit old i
  is_kept i (inl before) = elim (cases_lt (i / 8) (at + 5)) [
    | inl less ↦ at_byte new i (i / 8) _ refl (others (i / 8) (λ e. omega arith) (λ e. omega arith) (λ e. omega arith)) ∙ sym (at_byte old i (i / 8) _ refl refl)
    | inr here ↦ at_byte new i (at + 5) _ (omega arith) first ∙ first_kept (get_or old (at + 5) 0) (i % 8) (omega arith) ∙ sym (at_byte old i (at + 5) _ (omega arith) refl)
  ]
  is_kept i (inr behind) = elim (cases_lt (at + 7) (i / 8)) [
    | inl later ↦ at_byte new i (i / 8) _ refl (others (i / 8) (λ e. omega arith) (λ e. omega arith) (λ e. omega arith)) ∙ sym (at_byte old i (i / 8) _ refl refl)
    | inr here ↦ at_byte new i (at + 7) _ (omega arith) third ∙ third_kept (get_or old (at + 7) 0) (7 - i % 8) (omega arith) ∙ sym (at_byte old i (at + 7) _ (omega arith) refl)
  ]

  delay_set : SetsDelay old new at
  delay_set = record { same_length = same_length; set = is_set; kept = is_kept }

pub three_set : (old : List ℕ) (at : ℕ) → at + 8 ≤ length old
    → SetsDelay old (set (set (set old (at + 5) (get_or old (at + 5) 0 / 8 * 8 + 7)) (at + 6) 255) (at + 7)
    (248 + get_or (set (set old (at + 5) (get_or old (at + 5) 0 / 8 * 8 + 7)) (at + 6) 255) (at + 7) 0 % 8)) at
three_set old at within =
    let x = get_or old (at + 5) 0 / 8 * 8 + 7 in
    let one : List ℕ = set old (at + 5) x in
    let two : List ℕ = set one (at + 6) 255 in
    let y = 248 + get_or two (at + 7) 0 % 8 in
    let three : List ℕ = set two (at + 7) y in
    let count_one : length one ≡ length old = length-set old (at + 5) x in
    let count_two : length two ≡ length old = length-set one (at + 6) 255 ∙ count_one in
    delay_set old three at (length-set two (at + 7) y ∙ count_two)
    (get_or-set_other two (at + 7) (at + 5) y 0 (λ e. omega arith) ∙ get_or-set_other one (at + 6) (at + 5) 255 0 (λ e. omega arith) ∙ get_or-set_same old (at + 5) x 0 (omega arith))
    (get_or-set_other two (at + 7) (at + 6) y 0 (λ e. omega arith) ∙ get_or-set_same one (at + 6) 255 0 (omega (arith, count_one)))
    (get_or-set_same two (at + 7) y 0 (omega (arith, count_two))
    ∙ ap (λ n. 248 + n % 8) (get_or-set_other one (at + 6) (at + 7) 255 0 (λ e. omega arith) ∙ get_or-set_other old (at + 5) (at + 7) x 0 (λ e. omega arith)))
    (λ i not5 not6 not7. get_or-set_other two (at + 7) i y 0 not7 ∙ get_or-set_other one (at + 6) i 255 0 not6 ∙ get_or-set_other old (at + 5) i x 0 not5)
