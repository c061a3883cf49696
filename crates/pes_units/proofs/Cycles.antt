-- Whole cycles of 2^33 between a number and its remainder.
use Rattle.std.proofs.Common.{◌≡◌, ◌+◌, ◌/◌, ◌^◌, ℤ, pos, negsuc, neg_ℤ, ◌+ℤ◌, ◌*ℤ◌, ◌≤ℤ◌, ◌<ℤ◌, arith}
use Rattle.std.specs.Int.{int_rem_euclid}
use Rattle.std.proofs.lemmas.Int.{ints}

-- how often the cycle is added to a number for its remainder
pub turns_of : ℤ → ℤ
turns_of (pos a) = neg_ℤ (pos (a / 2 ^ 33))
turns_of (negsuc a) = pos (a / 2 ^ 33 + 1)

pub rem-turns : (d : ℤ) → int_rem_euclid d (pos (2 ^ 33)) ≡ d +ℤ turns_of d *ℤ pos (2 ^ 33)
unfolding turns_of
rem-turns (pos a) = omega (arith, ints)
rem-turns (negsuc a) = omega (arith, ints)

pub rem-not_negative : (d : ℤ) → pos 0 ≤ℤ int_rem_euclid d (pos (2 ^ 33))
rem-not_negative (pos a) = omega (arith, ints)
rem-not_negative (negsuc a) = omega (arith, ints)

pub rem-below : (d : ℤ) → int_rem_euclid d (pos (2 ^ 33)) <ℤ pos (2 ^ 33)
rem-below (pos a) = omega (arith, ints)
rem-below (negsuc a) = omega (arith, ints)
