-- Numbers in bits, by the bytes that hold them.
use Rattle.std.proofs.Common.{◌≡◌, ℕ, zero, suc, ◌+◌, ◌-◌, ◌*◌, ◌/◌, ◌%◌, ◌^◌, ◌<◌, Bool, true, false, List, get_or, refl, add-zero, add-suc, add_assoc, pow-suc, arith}
use Rattle.std.proofs.lemmas.Nat.{mod-pow-add, shr-shr}
use Rattle.std.proofs.Math.Numerals.{add-one}
use Rattle.bit_lists.specs.Fields.{bit, bits, flag}

-- one more bit of a number below it
pub bit_more : (x k n : ℕ) → 2 * (x / 2 ^ (k + 1) % 2 ^ n) + x / 2 ^ k % 2 ≡ x / 2 ^ k % 2 ^ suc n
bit_more x k n = rw (← shr-shr x k 1, ← add-one n) (omega (arith, mod-pow-add (x / 2 ^ k) n 1))

-- the bit at a place within byte i
pub bit-byte : (bytes : List ℕ) (place i j : ℕ) → place ≡ 8 * i + j → j < 8 → bit bytes place ≡ get_or bytes i 0 / 2 ^ (7 - j) % 2
unfolding bit
bit-byte bytes place i j at low =
    let byte : place / 8 ≡ i = omega arith in
    let within : place % 8 ≡ j = omega arith in
    rw (byte, within) refl

-- n bits within byte i
pub bits-byte : (bytes : List ℕ) (first n i j k : ℕ) → first ≡ 8 * i + j → j + n + k ≡ 8 → bits bytes first n ≡ get_or bytes i 0 / 2 ^ k % 2 ^ n
unfolding bits
bits-byte bytes first zero i j k at fits = omega arith
bits-byte bytes first (suc n) i j k at fits =
    let front : bits bytes first n ≡ get_or bytes i 0 / 2 ^ (k + 1) % 2 ^ n = bits-byte bytes first n i j (k + 1) at (omega arith) in
    let last : bit bytes (first + n) ≡ get_or bytes i 0 / 2 ^ (7 - (j + n)) % 2 = bit-byte bytes (first + n) i (j + n) (omega arith) (omega arith) in
    let place : 7 - (j + n) ≡ k = omega arith in
    rw (front, last, place) (bit_more (get_or bytes i 0) k n)

-- a number of m + n bits is the first m, then the other n
pub bits-add : (bytes : List ℕ) (first m n : ℕ) → bits bytes first (m + n) ≡ bits bytes first m * 2 ^ n + bits bytes (first + m) n
unfolding bits
bits-add bytes first m zero = rw add-zero (omega arith)
bits-add bytes first m (suc n) =
    let step : bits bytes first (m + n) ≡ bits bytes first m * 2 ^ n + bits bytes (first + m) n = bits-add bytes first m n in
    rw (add-suc, step, add_assoc first m n, pow-suc) (omega arith)

-- ---- flags

pub flag_below : (is_set : Bool) → flag is_set < 2
flag_below true = omega arith
flag_below false = omega arith

pub flag-same : (a b : Bool) → flag a ≡ flag b → a ≡ b
flag-same true true e = refl
flag-same true false e = absurd (let e' : 1 ≡ 0 = e in omega arith)
flag-same false true e = absurd (let e' : 0 ≡ 1 = e in omega arith)
flag-same false false e = refl
