-- A size with the sign of a level.
use Rattle.std.proofs.Common.{◌≡◌, ℕ, zero, suc, min, ◌*◌, ◌≤◌, ℤ, pos, negsuc, ◌-ℤ◌, ◌*ℤ◌, ◌≤ℤ◌, ◌<ℤ◌, unsigned_abs, arith, ap, ◌∙◌}
use Rattle.std.specs.Int.{int_signum}
use Rattle.std.proofs.lemmas.Int.{ints}

pub signum-negative : (level : ℤ) (size : ℕ) → level <ℤ pos 0 → pos 0 -ℤ pos size ≡ int_signum level *ℤ pos size
signum-negative (pos a) size below = absurd (omega (arith, ints))
signum-negative (negsuc a) size below = omega (arith, ints)

pub signum-nonnegative : (level : ℤ) (size : ℕ) → pos 0 ≤ℤ level → size ≤ unsigned_abs level → pos size ≡ int_signum level *ℤ pos size
signum-nonnegative (pos zero) size above small = omega (arith, ints)
signum-nonnegative (pos (suc a)) size above small =
    let one : 1 ≡ min (suc a) 1 = omega arith in
    let once : size ≡ 1 * size = omega arith in
    ap pos once ∙ ap (λ n. pos (n * size)) one
signum-nonnegative (negsuc a) size above small = absurd (omega (arith, ints))
