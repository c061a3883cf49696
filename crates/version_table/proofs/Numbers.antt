-- Digits at the front of a text, as a loop finds them.
use Rattle.std.proofs.Common.{◌≡◌, ℕ, ◌+◌, ◌-◌, ◌*◌, ◌^◌, ◌<◌, ◌≤◌, List, length, get_or, take, None, arith, inl, inr, lit≤}
use Rattle.std.specs.Char.{digit_value}
use Rattle.std.specs.Str.Parse.{AllDigits, digits_value}
use Rattle.std.specs.Int.{IsInRange}
use Rattle.std.specs.Net.Reader.{read_number}
use Rattle.std.proofs.lemmas.Bool.{cases_lt}
use Rattle.std.proofs.lemmas.List.{get_or_past}
use Rattle.std.proofs.lemmas.Int.Digits.{digits_value_more, digits_more}
use Rattle.std.proofs.lemmas.Str.{digit_value_digit}
use Rattle.std.proofs.lemmas.Str.Parse.{digit_from_value}
use Rattle.std.proofs.NetLemmas.Numbers.{read_number_large_at}

-- one more digit, and what the digits are worth then
pub record OneMore (s : List ℕ) (i : ℕ) : Type 0 where
  pub digits : AllDigits 10 (take (i + 1) s)
  pub value : digits_value 10 (take (i + 1) s) ≡ digits_value 10 (take i s) * 10 + (get_or s i 0 - 48)

pub one_more : (s : List ℕ) (i : ℕ) → i < length s → AllDigits 10 (take i s) → IsInRange 48 57 (get_or s i 0) → OneMore s i
one_more s i lt all digit =
    let is = digit_value_digit (get_or s i 0) digit in
    record { digits = digits_more 10 s i lt all (omega arith); value = omega (arith, digits_value_more 10 s i lt) }

-- the next digit takes the number past 64 bits
pub too_large : (s : List ℕ) (i value : ℕ) → i < length s → AllDigits 10 (take i s) → value ≡ digits_value 10 (take i s) → IsInRange 48 57 (get_or s i 0)
    → 2 ^ 64 ≤ value * 10 + (get_or s i 0 - 48) → read_number 10 (2 ^ 64 - 1) s ≡ None
too_large s i value lt all is digit large =
    let more = one_more s i lt all digit in
    read_number_large_at 10 (2 ^ 64 - 1) s (i + 1) (lit≤ tt) more.digits (omega (arith, more.value))

-- no digit stands at the place: the text ends there, or the byte is none
pub no_digit_at : (s : List ℕ) (i : ℕ) → (i < length s → IsInRange 48 57 (get_or s i 0) → ⊥) → 10 ≤ digit_value (get_or s i 0)
no_digit_at s i outside =
    elim (cases_lt i (length s)) [
      | inl lt ↦ elim (cases_lt (digit_value (get_or s i 0)) 10) [ inl digit ↦ absurd (outside lt (digit_from_value (get_or s i 0) digit)) | inr other ↦ other ]
      | inr past ↦ rw (get_or_past s i 0 past) (lit≤ tt)
    ]
