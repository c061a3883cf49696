-- The bits that a mask of a byte leaves, as a part of the number.
use Rattle.std.proofs.Common.{◌≡◌, ℕ, ◌*◌, ◌/◌, ◌%◌, bit_and}
use Rattle.std.proofs.lemmas.Nat.{and_mask}
use Rattle.std.proofs.lemmas.Nat.Bits.{and_pow, and_high}

-- ---- one bit

pub and_128 : (n : ℕ) → bit_and n 128 ≡ n / 128 % 2 * 128
and_128 n = and_pow n 7

pub and_64 : (n : ℕ) → bit_and n 64 ≡ n / 64 % 2 * 64
and_64 n = and_pow n 6

pub and_32 : (n : ℕ) → bit_and n 32 ≡ n / 32 % 2 * 32
and_32 n = and_pow n 5

pub and_16 : (n : ℕ) → bit_and n 16 ≡ n / 16 % 2 * 16
and_16 n = and_pow n 4

-- ---- two bits

pub and_192 : (n : ℕ) → bit_and n 192 ≡ n / 64 % 4 * 64
and_192 n = and_high n 2 6

pub and_48 : (n : ℕ) → bit_and n 48 ≡ n / 16 % 4 * 16
and_48 n = and_high n 2 4

-- ---- the lowest bits

pub and_1 : (n : ℕ) → bit_and n 1 ≡ n % 2
and_1 n = and_mask n 1

pub and_15 : (n : ℕ) → bit_and n 15 ≡ n % 16
and_15 n = and_mask n 4

pub and_31 : (n : ℕ) → bit_and n 31 ≡ n % 32
and_31 n = and_mask n 5

pub and_511 : (n : ℕ) → bit_and n 511 ≡ n % 512
and_511 n = and_mask n 9
