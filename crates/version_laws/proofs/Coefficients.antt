-- How far the coefficient of a level lies from that of another one of the same sign, whatever the weights and the scales.
use Rattle.std.proofs.Common.{◌≡◌, ℕ, zero, suc, min, ◌+◌, ◌*◌, ◌/◌, ◌≤◌, ℤ, pos, negsuc, neg_ℤ, ◌+ℤ◌, ◌-ℤ◌, ◌*ℤ◌, unsigned_abs, Bool, true, false, refl, sym, subst, arith}
use Rattle.std.specs.Prelude.{int_div}
use Rattle.std.specs.Int.{int_signum}
use Rattle.std.proofs.lemmas.Int.{ints, clamps}
use Rattle.quant_math.specs.Levels.{coarser_level, coarser_size, coefficient_of, saturation_of, sign_term}

-- a coefficient that isn't negative, and one that isn't positive
record IsUp (z : ℤ) : Type 0 where
  pub size : ℕ
  pub is : z ≡ pos size
  pub most : size ≤ 2048

record IsDown (z : ℤ) : Type 0 where
  pub size : ℕ
  pub is : z ≡ neg_ℤ (pos size)
  pub most : size ≤ 2048

up-near : (x y : ℤ) → IsUp x → IsUp y → unsigned_abs (x -ℤ y) ≤ 2048
up-near x y a b = omega (arith, ints, a.is, a.most, b.is, b.most)

down-near : (x y : ℤ) → IsDown x → IsDown y → unsigned_abs (x -ℤ y) ≤ 2048
down-near x y a b = omega (arith, ints, a.is, a.most, b.is, b.most)

-- ---- saturation

saturated-up : (n : ℕ) → IsUp (saturation_of (pos n))
saturated-up n = record { size = min n 2047; is = omega (arith, ints, clamps); most = omega arith }

saturated-down : (n : ℕ) → IsDown (saturation_of (neg_ℤ (pos n)))
saturated-down n = record { size = min n 2048; is = omega (arith, ints, clamps); most = omega arith }

-- ---- products

-- a number that isn't positive, times one that isn't negative, and divided
record IsMinus (z : ℤ) : Type 0 where
  pub size : ℕ
  pub is : z ≡ neg_ℤ (pos size)

minus-times : (a w : ℕ) → IsMinus (neg_ℤ (pos a) *ℤ pos w)
minus-times zero w = record { size = 0; is = omega (arith, ints) }
minus-times (suc a) w = record { size = suc a * w; is = refl }

minus-divided : (a : ℕ) → IsMinus (int_div (neg_ℤ (pos a)) (pos 32))
minus-divided zero = record { size = 0; is = refl }
minus-divided (suc a) = record { size = suc a / 32; is = refl }

scaled-down : (z : ℤ) (w s : ℕ) → IsMinus z → IsDown (saturation_of (int_div (z *ℤ pos w *ℤ pos s) (pos 32)))
scaled-down z w s minus =
    let first : IsMinus (z *ℤ pos w) = subst (λ (x : ℤ). IsMinus (x *ℤ pos w)) (sym minus.is) (minus-times minus.size w) in
    let second : IsMinus (z *ℤ pos w *ℤ pos s) = subst (λ (x : ℤ). IsMinus (x *ℤ pos s)) (sym first.is) (minus-times first.size s) in
    let third : IsMinus (int_div (z *ℤ pos w *ℤ pos s) (pos 32)) = subst (λ (x : ℤ). IsMinus (int_div x (pos 32))) (sym second.is) (minus-divided second.size) in
    subst (λ (x : ℤ). IsDown (saturation_of x)) (sym third.is) (saturated-down third.size)

-- ---- coefficients

coefficient-up : (n w s : ℕ) (intra : Bool) → IsUp (coefficient_of (pos n) w s intra)
coefficient-up n w s true = saturated-up ((2 * n + 0) * w * s / 32)
coefficient-up n w s false = saturated-up ((2 * n + min n 1) * w * s / 32)

doubled-minus : (n : ℕ) (intra : Bool) → IsMinus (pos 2 *ℤ neg_ℤ (pos n) +ℤ sign_term (neg_ℤ (pos n)) intra)
doubled-minus zero true = record { size = 0; is = refl }
doubled-minus zero false = record { size = 0; is = refl }
doubled-minus (suc n) true = record { size = 2 * suc n; is = omega (arith, ints) }
doubled-minus (suc n) false = record { size = 2 * suc n + 1; is = omega (arith, ints) }

coefficient-down : (n w s : ℕ) (intra : Bool) → IsDown (coefficient_of (neg_ℤ (pos n)) w s intra)
coefficient-down n w s intra = scaled-down (pos 2 *ℤ neg_ℤ (pos n) +ℤ sign_term (neg_ℤ (pos n)) intra) w s (doubled-minus n intra)

-- ---- levels

-- a level that is 0 or has the sign of another one
abbrev pub IsAlong : ℤ → ℤ → Type 0
IsAlong (pos n) level = (k : ℕ) × (level ≡ pos k)
IsAlong (negsuc n) level = (k : ℕ) × (level ≡ neg_ℤ (pos k))

pub along-zero : (level : ℤ) → IsAlong level (pos 0)
along-zero (pos n) = (0, refl)
along-zero (negsuc n) = (0, refl)

pub along-signum : (level : ℤ) → IsAlong level (int_signum level)
along-signum (pos n) = (min n 1, refl)
along-signum (negsuc n) = (1, refl)

pub along-coarser : (level : ℤ) (weight from to : ℕ) (intra : Bool) → IsAlong level (coarser_level level weight from to intra)
along-coarser (pos n) weight from to intra = (min n 1 * coarser_size (pos n) weight from to intra, refl)
along-coarser (negsuc n) weight from to intra = (1 * coarser_size (negsuc n) weight from to intra, refl)

-- coefficients of two levels of one sign lie no farther apart than the least one from 0
pub coefficients-near : (level other : ℤ) (w s v t : ℕ) (intra intra' : Bool) → IsAlong level other
    → unsigned_abs (coefficient_of level w s intra -ℤ coefficient_of other v t intra') ≤ 2048
coefficients-near (pos n) other w s v t intra intra' (k, is) =
    up-near (coefficient_of (pos n) w s intra) (coefficient_of other v t intra') (coefficient-up n w s intra)
    (subst (λ (z : ℤ). IsUp (coefficient_of z v t intra')) (sym is) (coefficient-up k v t intra'))
coefficients-near (negsuc n) other w s v t intra intra' (k, is) =
    down-near (coefficient_of (negsuc n) w s intra) (coefficient_of other v t intra') (coefficient-down (suc n) w s intra)
    (subst (λ (z : ℤ). IsDown (coefficient_of z v t intra')) (sym is) (coefficient-down k v t intra'))

-- nor does the coefficient of one from 0
pub coefficient-near : (level : ℤ) (w s : ℕ) (intra : Bool) → unsigned_abs (coefficient_of level w s intra -ℤ pos 0) ≤ 2048
coefficient-near (pos n) w s intra = up-near (coefficient_of (pos n) w s intra) (pos 0) (coefficient-up n w s intra) (record { size = 0; is = refl; most = omega arith })
coefficient-near (negsuc n) w s intra = down-near (coefficient_of (negsuc n) w s intra) (pos 0) (coefficient-down (suc n) w s intra) (record { size = 0; is = refl; most = omega arith })
