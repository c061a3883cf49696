-- Parts of a number that stands in bits.
use Rattle.std.proofs.Common.{◌≡◌, ℕ, zero, suc, ◌+◌, ◌*◌, ◌/◌, ◌%◌, ◌^◌, ◌<◌, List, get_or, refl, sym, ap, ◌∙◌, pow-suc, arith}
use Rattle.std.proofs.lemmas.Nat.{shr_high, mod_low}
use Rattle.bit_lists.specs.Fields.{bit, bits}
use Rattle.bit_lists.proofs.FieldLemmas.{bits-add, bits-byte}

pub bit_below : (bytes : List ℕ) (i : ℕ) → bit bytes i < 2
unfolding bit
bit_below bytes i = omega arith

-- a number of n bits
pub bits_below : (bytes : List ℕ) (first n : ℕ) → bits bytes first n < 2 ^ n
unfolding bits
bits_below bytes first zero = omega arith
bits_below bytes first (suc n) = rw pow-suc (omega (arith, bits_below bytes first n, bit_below bytes (first + n)))

-- n bits behind the first j of a number, and before its last k
pub bits-part : (bytes : List ℕ) (first j n k : ℕ) → bits bytes (first + j) n ≡ bits bytes first (j + n + k) / 2 ^ k % 2 ^ n
bits-part bytes first j n k =
    let front = bits bytes first (j + n) in
    let whole : bits bytes first (j + n + k) / 2 ^ k ≡ front = ap (λ x. x / 2 ^ k) (bits-add bytes first (j + n) k)
    ∙ shr_high front k (bits bytes (first + (j + n)) k) (bits_below bytes (first + (j + n)) k) in
    let part : front % 2 ^ n ≡ bits bytes (first + j) n = ap (λ x. x % 2 ^ n) (bits-add bytes first j n) ∙ mod_low (bits bytes first j) n (bits bytes (first + j) n) (bits_below bytes (first + j) n) in
    sym (ap (λ x. x % 2 ^ n) whole ∙ part)

-- the number in five whole bytes
pub bits-five : (bytes : List ℕ) (i : ℕ) → bits bytes (8 * i) 40
    ≡ get_or bytes i 0 % 256 * 2 ^ 32 + get_or bytes (i + 1) 0 % 256 * 2 ^ 24 + get_or bytes (i + 2) 0 % 256 * 2 ^ 16 + get_or bytes (i + 3) 0 % 256
    * 2 ^ 8 + get_or bytes (i + 4) 0 % 256
bits-five bytes i =
    omega (
      arith,
      bits-add bytes (8 * i) 8 32,
      bits-add bytes (8 * i + 8) 8 24,
      bits-add bytes (8 * i + 8 + 8) 8 16,
      bits-add bytes (8 * i + 8 + 8 + 8) 8 8,
      bits-byte bytes (8 * i) 8 i 0 0 (omega arith) refl,
      bits-byte bytes (8 * i + 8) 8 (i + 1) 0 0 (omega arith) refl,
      bits-byte bytes (8 * i + 8 + 8) 8 (i + 2) 0 0 (omega arith) refl,
      bits-byte bytes (8 * i + 8 + 8 + 8) 8 (i + 3) 0 0 (omega arith) refl,
      bits-byte bytes (8 * i + 8 + 8 + 8 + 8) 8 (i + 4) 0 0 (omega arith) refl,
    )
