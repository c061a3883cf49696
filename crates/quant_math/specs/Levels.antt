use Rattle.std.specs.Prelude.{ℕ, ◌+◌, ◌*◌, ◌/◌, min, Bool, true, false, ℤ, pos, neg_ℤ, ◌+ℤ◌, ◌*ℤ◌, int_div, unsigned_abs}
use Rattle.quant_math.specs.declared.levels.TheConstants.{LEAST_COEFFICIENT, GREATEST_COEFFICIENT, COEFFICIENT_PARTS, LEVEL_PARTS}
use Rattle.std.specs.Int.{int_signum, int_min, int_max}

-- what the reconstruction adds to twice the level: nothing for intra, the sign for non-intra (ISO/IEC 13818-2, 7.4.2.3)
abbrev pub sign_term : ℤ → Bool → ℤ
sign_term level true = pos 0
sign_term level false = int_signum level

-- a coefficient but the intra DC before it is saturated; the division truncates towards zero (ISO/IEC 13818-2, 7.4.2.3)
abbrev pub reconstruction_of : ℤ → ℕ → ℕ → Bool → ℤ
reconstruction_of level weight scale intra =
    int_div ((pos 2 *ℤ level +ℤ sign_term level intra) *ℤ pos weight *ℤ pos scale) COEFFICIENT_PARTS

-- a coefficient held within the least and the greatest one (ISO/IEC 13818-2, 7.4.3)
abbrev pub saturation_of : ℤ → ℤ
saturation_of coefficient = int_max LEAST_COEFFICIENT (int_min coefficient GREATEST_COEFFICIENT)

-- inverse quantisation of a level but the intra DC (ISO/IEC 13818-2, 7.4.2.3 and 7.4.3)
abbrev pub coefficient_of : ℤ → ℕ → ℕ → Bool → ℤ
coefficient_of level weight scale intra = saturation_of (reconstruction_of level weight scale intra)

-- The size of the level that stands for a level's coefficient at another scale, never above the old size: rounded to
-- the nearest for intra, and down for non-intra, whose reconstruction adds half a step.
abbrev pub coarser_size : ℤ → ℕ → ℕ → ℕ → Bool → ℕ
coarser_size level weight scale_from scale_to true =
    let size = unsigned_abs (coefficient_of level weight scale_from true) in
    min (unsigned_abs level) ((LEVEL_PARTS * size + weight * scale_to / 2) / (weight * scale_to))
coarser_size level weight scale_from scale_to false =
    let size = unsigned_abs (coefficient_of level weight scale_from false) in
    min (unsigned_abs level) (LEVEL_PARTS * size / (weight * scale_to))

-- the level at another scale, which keeps its sign
abbrev pub coarser_level : ℤ → ℕ → ℕ → ℕ → Bool → ℤ
coarser_level level weight scale_from scale_to intra =
    int_signum level *ℤ pos (coarser_size level weight scale_from scale_to intra)
