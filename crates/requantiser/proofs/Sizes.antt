-- Sizes of coefficients, and how far those of a level and of the coarser level are apart.
use Rattle.std.proofs.Common.{◌≡◌, ℕ, zero, suc, ◌+◌, ◌*◌, ◌/◌, ◌<◌, ◌≤◌, min, ℤ, pos, negsuc, neg_ℤ, ◌+ℤ◌, ◌-ℤ◌, ◌*ℤ◌, unsigned_abs, Bool, true, false, refl, sym, ◌∙◌, ap, ap₂, arith}
use Rattle.std.specs.Prelude.{int_div}
use Rattle.std.specs.Int.{abs_diff, int_signum}
use Rattle.std.proofs.Math.Nat.{div-eq_of_lt}
use Rattle.std.proofs.lemmas.Int.{ints, clamps}
use Rattle.std.proofs.lemmas.Nat.{le-div}
use Rattle.quant_math.specs.Levels.{coarser_level, coarser_size, coefficient_of, saturation_of, sign_term}
use Rattle.requantiser.specs.Distortion.{squared_difference}
use Rattle.requantiser.specs.Private.Changes.{level_change}
use Rattle.requantiser.specs.Private.Sizes.{half_of, limit_of, size_of, rounding_of}
use Rattle.requantiser.proofs.Coefficients.{coefficient_of-zero}

-- ---- coefficients by the sign of their levels

saturated_up : (n : ℕ) → saturation_of (pos n) ≡ pos (min n 2047)
saturated_up n = omega (arith, ints, clamps)

saturated_down : (n : ℕ) → saturation_of (neg_ℤ (pos n)) ≡ neg_ℤ (pos (min n 2048))
saturated_down n = omega (arith, ints, clamps)

coefficient_up : (n w s : ℕ) (intra : Bool) → coefficient_of (pos (suc n)) w s intra ≡ pos (size_of (suc n) w s (half_of intra) 2047)
coefficient_up n w s true = saturated_up ((2 * suc n + 0) * w * s / 32)
coefficient_up n w s false =
    let one : min (suc n) 1 ≡ 1 = omega arith in
    saturated_up ((2 * suc n + min (suc n) 1) * w * s / 32) ∙ ap (λ k. pos (size_of (suc n) w s k 2047)) one

times_down : (a w : ℕ) → neg_ℤ (pos a) *ℤ pos w ≡ neg_ℤ (pos (a * w))
times_down zero w = omega (arith, ints)
times_down (suc a) w = refl

divided_down : (a : ℕ) → int_div (neg_ℤ (pos a)) (pos 32) ≡ neg_ℤ (pos (a / 32))
divided_down zero = refl
divided_down (suc a) = refl

doubled_down : (n : ℕ) (intra : Bool) → pos 2 *ℤ negsuc n +ℤ sign_term (negsuc n) intra ≡ neg_ℤ (pos (2 * suc n + half_of intra))
doubled_down n true = omega (arith, ints)
doubled_down n false = omega (arith, ints)

coefficient_down : (n w s : ℕ) (intra : Bool) → coefficient_of (negsuc n) w s intra ≡ neg_ℤ (pos (size_of (suc n) w s (half_of intra) 2048))
coefficient_down n w s intra =
    let a : ℕ = 2 * suc n + half_of intra in
    ap (λ (z : ℤ). saturation_of (int_div (z *ℤ pos w *ℤ pos s) (pos 32))) (doubled_down n intra)
    ∙ ap (λ (z : ℤ). saturation_of (int_div (z *ℤ pos s) (pos 32))) (times_down a w)
    ∙ ap (λ (z : ℤ). saturation_of (int_div z (pos 32))) (times_down (a * w) s)
    ∙ ap (λ (z : ℤ). saturation_of z) (divided_down (a * w * s))
    ∙ saturated_down (a * w * s / 32)

pub limit_of-least : (level : ℤ) → 2047 ≤ limit_of level
limit_of-least (pos n) = omega arith
limit_of-least (negsuc n) = omega arith

pub limit_of-most : (level : ℤ) → limit_of level ≤ 2048
limit_of-most (pos n) = omega arith
limit_of-most (negsuc n) = omega arith

abs_down : (n : ℕ) → unsigned_abs (neg_ℤ (pos n)) ≡ n
abs_down n = omega (arith, ints)

-- the size of a level's coefficient
pub coefficient_size : (level : ℤ) (w s : ℕ) (intra : Bool) → 0 < unsigned_abs level
    → unsigned_abs (coefficient_of level w s intra) ≡ size_of (unsigned_abs level) w s (half_of intra) (limit_of level)
coefficient_size (pos zero) w s intra some = absurd (omega arith)
coefficient_size (pos (suc n)) w s intra some = ap unsigned_abs (coefficient_up n w s intra)
coefficient_size (negsuc n) w s intra some = ap unsigned_abs (coefficient_down n w s intra) ∙ abs_down (size_of (suc n) w s (half_of intra) 2048)

-- ---- coarser levels

-- the size of the coarser level by that of the coefficient
pub coarser_size_by : (level : ℤ) (w from to : ℕ) (intra : Bool) (coefficient : ℕ) → unsigned_abs (coefficient_of level w from intra) ≡ coefficient
    → coarser_size level w from to intra ≡ min (unsigned_abs level) ((16 * coefficient + rounding_of intra (w * to)) / (w * to))
coarser_size_by level w from to true coefficient is = ap (λ n. min (unsigned_abs level) ((16 * n + w * to / 2) / (w * to))) is
coarser_size_by level w from to false coefficient is =
    let same : 16 * unsigned_abs (coefficient_of level w from false) ≡ 16 * coefficient + 0 = omega (arith, is) in
    ap (λ n. min (unsigned_abs level) (n / (w * to))) same

times_zero : (z : ℤ) → z *ℤ pos 0 ≡ pos 0
times_zero z = omega (arith, ints)

-- the square of the difference to 0
from_none : (z : ℤ) → squared_difference z (pos 0) ≡ unsigned_abs z * unsigned_abs z
from_none z = let same : unsigned_abs (z -ℤ pos 0) ≡ unsigned_abs z = omega (arith, ints) in ap (λ n. n * n) same

-- the level 0 stays
pub none_coarser : (level : ℤ) (w from to : ℕ) (intra : Bool) → unsigned_abs level ≡ 0 → pos 0 ≡ coarser_level level w from to intra
none_coarser level w from to intra none =
    let small : coarser_size level w from to intra ≡ 0 = by_intra intra in
    sym (ap (λ n. int_signum level *ℤ pos n) small ∙ times_zero (int_signum level))
  where
    by_intra : (b : Bool) → coarser_size level w from to b ≡ 0
    by_intra true = omega (arith, none)
    by_intra false = omega (arith, none)

no_level : (level : ℤ) → unsigned_abs level ≡ 0 → level ≡ pos 0
no_level level none = omega (arith, ints)

pub none_changed : (level : ℤ) (w from to : ℕ) (intra : Bool) → unsigned_abs level ≡ 0 → 0 ≡ level_change level w from to intra
none_changed level w from to intra none =
    let first : coefficient_of level w from intra ≡ pos 0 = ap (λ (z : ℤ). coefficient_of z w from intra) (no_level level none) ∙ coefficient_of-zero w from intra in
    let second : coefficient_of (coarser_level level w from to intra) w to intra ≡ pos 0 =
    ap (λ (z : ℤ). coefficient_of z w to intra) (sym (none_coarser level w from to intra none)) ∙ coefficient_of-zero w to intra in
    sym (ap₂ squared_difference first second)

-- a level whose parts don't reach a step becomes 0
pub gone_coarser : (level : ℤ) (w from to : ℕ) (intra : Bool) (parts : ℕ) → 0 < unsigned_abs level
    → parts ≡ 16 * size_of (unsigned_abs level) w from (half_of intra) (limit_of level) + rounding_of intra (w * to) → parts < w * to
    → pos 0 ≡ coarser_level level w from to intra
gone_coarser level w from to intra parts some is below =
    let small : coarser_size level w from to intra ≡ 0 = coarser_size_by level w from to intra _ (coefficient_size level w from intra some)
    ∙ ap (λ n. min (unsigned_abs level) (n / (w * to))) (sym is) ∙ ap (λ n. min (unsigned_abs level) n) (div-eq_of_lt below) ∙ (let none : min (unsigned_abs level) 0 ≡ 0 = omega arith in none) in
    sym (ap (λ n. int_signum level *ℤ pos n) small ∙ times_zero (int_signum level))

pub gone_changed : (level : ℤ) (w from to : ℕ) (intra : Bool) (parts : ℕ) → 0 < unsigned_abs level
    → parts ≡ 16 * size_of (unsigned_abs level) w from (half_of intra) (limit_of level) + rounding_of intra (w * to) → parts < w * to
    → let size : ℕ = size_of (unsigned_abs level) w from (half_of intra) (limit_of level) in size * size ≡ level_change level w from to intra
gone_changed level w from to intra parts some is below =
    let second : coefficient_of (coarser_level level w from to intra) w to intra ≡ pos 0 =
    ap (λ (z : ℤ). coefficient_of z w to intra) (sym (gone_coarser level w from to intra parts some is below)) ∙ coefficient_of-zero w to intra in
    sym (ap (squared_difference (coefficient_of level w from intra)) second ∙ from_none (coefficient_of level w from intra)
    ∙ ap (λ n. n * n) (coefficient_size level w from intra some))

-- and another one keeps its sign
pub kept_coarser : (level : ℤ) (w from to : ℕ) (intra : Bool) (parts kept : ℕ) → 0 < unsigned_abs level
    → parts ≡ 16 * size_of (unsigned_abs level) w from (half_of intra) (limit_of level) + rounding_of intra (w * to)
    → kept ≡ min (parts / (w * to)) (unsigned_abs level) → int_signum level *ℤ pos kept ≡ coarser_level level w from to intra
kept_coarser level w from to intra parts kept some is size =
    let turned : min (parts / (w * to)) (unsigned_abs level) ≡ min (unsigned_abs level) (parts / (w * to)) = omega arith in
    ap (λ n. int_signum level *ℤ pos n)
    (size ∙ turned ∙ ap (λ n. min (unsigned_abs level) (n / (w * to))) is ∙ sym (coarser_size_by level w from to intra _ (coefficient_size level w from intra some)))

apart_up : (a b : ℕ) → unsigned_abs (pos a -ℤ pos b) ≡ abs_diff a b
apart_up a b = omega (arith, ints)

apart_down : (a b : ℕ) → unsigned_abs (neg_ℤ (pos a) -ℤ neg_ℤ (pos b)) ≡ abs_diff a b
apart_down a b = omega (arith, ints)

one_times_up : (n j : ℕ) → int_signum (pos (suc n)) *ℤ pos (suc j) ≡ pos (suc j)
one_times_up n j = let one : min (suc n) 1 * suc j ≡ suc j = let low : min (suc n) 1 ≡ 1 = omega arith in rw low (omega arith) in ap pos one

one_times_down : (n j : ℕ) → int_signum (negsuc n) *ℤ pos (suc j) ≡ negsuc j
one_times_down n j = omega (arith, ints)

-- how far the coefficients of two levels of one sign are apart
apart : (level : ℤ) (w s t : ℕ) (intra : Bool) (kept : ℕ) → 0 < unsigned_abs level → 0 < kept
    → unsigned_abs (coefficient_of level w s intra -ℤ coefficient_of (int_signum level *ℤ pos kept) w t intra)
    ≡ abs_diff (size_of (unsigned_abs level) w s (half_of intra) (limit_of level)) (size_of kept w t (half_of intra) (limit_of level))
apart (pos zero) w s t intra kept some more = absurd (omega arith)
apart (pos (suc n)) w s t intra zero some more = absurd (omega arith)
apart (pos (suc n)) w s t intra (suc j) some more =
    ap₂ (λ (x y : ℤ). unsigned_abs (x -ℤ y)) (coefficient_up n w s intra) (ap (λ (z : ℤ). coefficient_of z w t intra) (one_times_up n j) ∙ coefficient_up j w t intra)
    ∙ apart_up (size_of (suc n) w s (half_of intra) 2047) (size_of (suc j) w t (half_of intra) 2047)
apart (negsuc n) w s t intra zero some more = absurd (omega arith)
apart (negsuc n) w s t intra (suc j) some more =
    ap₂ (λ (x y : ℤ). unsigned_abs (x -ℤ y)) (coefficient_down n w s intra) (ap (λ (z : ℤ). coefficient_of z w t intra) (one_times_down n j) ∙ coefficient_down j w t intra)
    ∙ apart_down (size_of (suc n) w s (half_of intra) 2048) (size_of (suc j) w t (half_of intra) 2048)

pub kept_changed : (level : ℤ) (w from to : ℕ) (intra : Bool) (parts kept : ℕ) → 0 < unsigned_abs level → 0 < kept
    → parts ≡ 16 * size_of (unsigned_abs level) w from (half_of intra) (limit_of level) + rounding_of intra (w * to)
    → kept ≡ min (parts / (w * to)) (unsigned_abs level)
    → let d : ℕ = abs_diff (size_of (unsigned_abs level) w from (half_of intra) (limit_of level)) (size_of kept w to (half_of intra) (limit_of level)) in d * d ≡ level_change level w from to intra
kept_changed level w from to intra parts kept some more is size =
    sym (ap (λ (z : ℤ). squared_difference (coefficient_of level w from intra) (coefficient_of z w to intra)) (sym (kept_coarser level w from to intra parts kept some is size))
    ∙ ap (λ n. n * n) (apart level w from to intra kept some more))

-- ---- as the code has them

pub size_by : (n n' w s h h' l l' r : ℕ) → r ≡ size_of n w s h l → n ≡ n' → h ≡ h' → l ≡ l' → r ≡ size_of n' w s h' l'
size_by n n' w s h h' l l' r is size half limit = is ∙ ap (λ k. size_of k w s h l) size ∙ ap (λ k. size_of n' w s k l) half ∙ ap (λ k. size_of n' w s h' k) limit

pub parts_by : (c c' a a' b b' r : ℕ) (intra : Bool) → c ≡ c' → r ≡ rounding_of intra (a * b) → a ≡ a' → b ≡ b' → 16 * c + r ≡ 16 * c' + rounding_of intra (a' * b')
parts_by c c' a a' b b' r intra coefficient is first second =
    ap₂ (λ x y. 16 * x + y) coefficient (is ∙ ap₂ (λ x y. rounding_of intra (x * y)) first second)

-- what reaches a step isn't 0
pub kept_some : (parts step size kept : ℕ) → 0 < step → step ≤ parts → 0 < size → kept ≡ min (parts / step) size → 0 < kept
kept_some parts step size kept some reaches more is =
    let one : 1 ≤ parts / step = le-div 1 parts step some (let once : 1 * step ≤ parts = omega (arith, reaches) in once) in
    omega (arith, is, one, more)

pub some_product : (a b : ℕ) → 0 < a → 0 < b → 0 < a * b
some_product zero b some more = absurd (omega arith)
some_product (suc a) b some more = omega arith
