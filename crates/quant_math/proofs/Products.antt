-- Bounds of the products of inverse quantisation.
use Rattle.std.proofs.Common.{to_z, of_z, ap, ◌∙◌, ◌≡◌, ℕ, ◌*◌, ◌≤◌, ℤ, pos, negsuc, ◌+ℤ◌, ◌*ℤ◌, ◌≤ℤ◌, FitsSigned, unsigned_abs, arith, w64}
use Rattle.std.proofs.Math.Nat.{mul-le-mul}
use Rattle.std.specs.Int.{w16}
use Rattle.std.proofs.lemmas.Int.{ints, to_z-of_z, quot_fits, unsigned_abs-mul}
use Rattle.std.specs.Prelude.{int_div}
use Rattle.std.specs.Int.{int_min, int_max}
use Rattle.quant_math.specs.Levels.{saturation_of}

-- twice a level, and a sign more
pub doubled_bound : (level k : ℤ) → FitsSigned w16 level → negsuc 0 ≤ℤ k → k ≤ℤ pos 1 → unsigned_abs (pos 2 *ℤ level +ℤ k) ≤ 65537
doubled_bound level k fits low high = omega (arith, ints)

-- a number of that size, times a weight
pub weighted_bound : (d : ℤ) (w : ℕ) → unsigned_abs d ≤ 65537 → w ≤ 255 → unsigned_abs (d *ℤ pos w) ≤ 16711935
weighted_bound d w size w_small =
    let product : unsigned_abs (d *ℤ pos w) ≡ unsigned_abs d * w = unsigned_abs-mul d (pos w) in
    omega (arith, product, mul-le-mul size w_small)

-- and times a scale
pub scaled_bound : (d : ℤ) (w s : ℕ) → unsigned_abs d ≤ 65537 → w ≤ 255 → s ≤ 65535 → unsigned_abs (d *ℤ pos w *ℤ pos s) ≤ 1095216660225
scaled_bound d w s size w_small s_small =
    let product : unsigned_abs (d *ℤ pos w *ℤ pos s) ≡ unsigned_abs (d *ℤ pos w) * s = unsigned_abs-mul (d *ℤ pos w) (pos s) in
    omega (arith, product, mul-le-mul (weighted_bound d w size w_small) s_small)

-- a product, divided and clamped by the code
pub saturated_quotient : (r computed product : ℤ) → r ≡ int_max (negsuc 2047)
    (int_min (to_z w64 (of_z w64 (int_div (to_z w64 (of_z w64 computed)) (pos 32)))) (pos 2047)) → to_z w64 (of_z w64 computed) ≡ product
    → FitsSigned w64 product → r ≡ saturation_of (int_div product (pos 32))
saturated_quotient r computed product clamped same fits =
    clamped
    ∙ ap (λ x. saturation_of (to_z w64 (of_z w64 (int_div x (pos 32))))) same
    ∙ ap saturation_of (to_z-of_z w64 (int_div product (pos 32)) (quot_fits w64 product (pos 32) fits (omega (arith, ints))))
