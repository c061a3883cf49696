-- Bits of a word that is a number of so many bits.
use Rattle.std.proofs.Common.{◌≡◌, ℕ, ◌+◌, ◌-◌, ◌*◌, ◌/◌, ◌%◌, ◌^◌, ◌<◌, ◌≤◌, List, ◌++◌, replicate, sym, ap, ap₂, subst, ◌∙◌, arith}
use Rattle.std.proofs.Math.Nat.{mul-le-mul_right, mod-lt, mod-eq_of_lt}
use Rattle.std.proofs.Math.Pow.{pow_mono}
use Rattle.std.proofs.lemmas.Nat.{pow-add, pow_pos, shl_below, shr_below, shl_whole}
use Rattle.std.specs.Int.{w32, to_be_bytes}
use Rattle.bit_lists.specs.Bits.{bits_of}
use Rattle.bit_lists.specs.Fields.{bit_list}
use Rattle.bit_lists.proofs.BitLemmas.{bits_of-mod}
use Rattle.bit_lists.proofs.JoinedLemmas.{bits_of-append, bits_of-put, bits_of-zero}
use Rattle.bit_lists.proofs.ByteLemmas.{bit_list-to_be_bytes}
use Rattle.bit_cursor.specs.Private.WaitingBits.{IsWord}

-- ---- a word and what is put behind it

-- nothing is shifted out
pub shifted : (word count n : ℕ) → IsWord word count → n ≤ 32 → word * 2 ^ n % 18446744073709551616 ≡ word * 2 ^ n
shifted word count n is width = let few : count + n ≤ 64 = omega (arith, is.few) in shl_whole word count n 64 is.fits few

put_below : (word count n value : ℕ) → word < 2 ^ count → value < 2 ^ n → word * 2 ^ n + value < 2 ^ (count + n)
put_below word count n value fits below =
    let rows : (word + 1) * 2 ^ n ≤ 2 ^ count * 2 ^ n = mul-le-mul_right (2 ^ n) (omega arith) in
    rw (pow-add 2 count n) (omega arith)

-- the bits of a word, and zero bits up to 32
pub filled : (word count : ℕ) → IsWord word count → bits_of 32 (word * 2 ^ (32 - count)) ≡ bits_of count word ++ replicate (32 - count) 0
filled word count is =
    let whole : 32 ≡ count + (32 - count) = omega (arith, is.few) in
    let none : word * 2 ^ (32 - count) ≡ word * 2 ^ (32 - count) + 0 = omega arith in
    ap₂ bits_of whole none ∙ bits_of-put count (32 - count) word 0 (pow_pos (32 - count)) ∙ ap (λ zeros. bits_of count word ++ zeros) (bits_of-zero (32 - count))

pub filled_below : (word count : ℕ) → IsWord word count → word * 2 ^ (32 - count) < 2 ^ 32
filled_below word count is =
    let whole : count + (32 - count) ≡ 32 = omega (arith, is.few) in
    subst (λ k. word * 2 ^ (32 - count) < 2 ^ k) whole (shl_below word count (32 - count) is.fits)

-- what is left of a number behind its front
left_over : (x rest : ℕ) → x < 2 ^ 64 → x - x / 2 ^ rest * 2 ^ rest % 18446744073709551616 ≡ x % 2 ^ rest
left_over x rest small =
    let some : 0 < 2 ^ rest = pow_pos rest in
    let within : x / 2 ^ rest * 2 ^ rest ≤ x = omega arith in
    let same : x / 2 ^ rest * 2 ^ rest % 18446744073709551616 ≡ x / 2 ^ rest * 2 ^ rest = mod-eq_of_lt (omega arith) in
    rw same (omega arith)

-- x is a word with the n bits of a value put behind it
module _ (word count n value x : ℕ) (is : IsWord word count) (below : value < 2 ^ n) (width : n ≤ 32) (put : x ≡ word * 2 ^ n + value) where
  x_below : x < 2 ^ (count + n)
  x_below = rw put (put_below word count n value is.fits below)

  pub x_fits : x < 2 ^ 64
  x_fits = let few : count + n ≤ 64 = omega (arith, is.few) in omega (arith, x_below, pow_mono few)

  pub x_bits : bits_of (count + n) x ≡ bits_of count word ++ bits_of n value
  x_bits = ap (bits_of (count + n)) put ∙ bits_of-put count n word value below

  -- while it has fewer than 32 bits
  pub x_IsWord : count + n < 32 → IsWord x (count + n)
  x_IsWord few = record { few = few; fits = x_below }

  -- and else its first 32, and the rest
  pub front_below : 32 ≤ count + n → x / 2 ^ (count + n - 32) < 2 ^ 32
  front_below many =
      let whole : count + n ≡ 32 + (count + n - 32) = omega arith in
      shr_below x 32 (count + n - 32) (subst (λ k. x < 2 ^ k) whole x_below)

  pub rest_IsWord : 32 ≤ count + n → IsWord (x - x / 2 ^ (count + n - 32) * 2 ^ (count + n - 32) % 18446744073709551616) (count + n - 32)
  rest_IsWord many = record {
    few = omega (arith, is.few);
    fits = rw (left_over x (count + n - 32) x_fits) (mod-lt x (pow_pos (count + n - 32)));
  }

  pub front_and_rest : (bytes : List ℕ) → bytes ≡ to_be_bytes w32 (x / 2 ^ (count + n - 32)) → 32 ≤ count + n →
      bit_list bytes ++ bits_of (count + n - 32) (x - x / 2 ^ (count + n - 32) * 2 ^ (count + n - 32) % 18446744073709551616)
      ≡ bits_of count word ++ bits_of n value
  front_and_rest bytes are many =
      let rest = count + n - 32 in
      let whole : 32 + rest ≡ count + n = omega arith in
      ap₂ (λ (a b : List ℕ). a ++ b) (ap bit_list are ∙ bit_list-to_be_bytes (x / 2 ^ rest)) (ap (bits_of rest) (left_over x rest x_fits) ∙ bits_of-mod rest x)
      ∙ sym (bits_of-append 32 rest x)
      ∙ ap (λ k. bits_of k x) whole
      ∙ x_bits
