-- Sizes of coefficients, without their signs.
use Rattle.std.specs.Prelude.{◌+◌, ◌*◌, ◌/◌, ℕ, min, ℤ, pos, negsuc, Bool, true, false}

-- what the reconstruction adds to twice the size of a level that isn't 0 (ISO/IEC 13818-2, 7.4.2.3)
abbrev pub half_of : Bool → ℕ
half_of true = 0
half_of false = 1

-- the greatest size of a coefficient of this sign (ISO/IEC 13818-2, 7.4.3)
abbrev pub limit_of : ℤ → ℕ
limit_of (pos n) = 2047
limit_of (negsuc n) = 2048

-- the size of the coefficient of a level of this size, which isn't 0
abbrev pub size_of : ℕ → ℕ → ℕ → ℕ → ℕ → ℕ
size_of size weight scale half limit = min ((2 * size + half) * weight * scale / 32) limit

-- what is added before a division by a step: half of it for intra, which rounds to the nearest
abbrev pub rounding_of : Bool → ℕ → ℕ
rounding_of true step = step / 2
rounding_of false step = 0
