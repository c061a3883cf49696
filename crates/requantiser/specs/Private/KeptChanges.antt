-- What a level becomes under two scales, kept under one number.
use Rattle.std.specs.Prelude.{◌≡◌, ◌<◌, ◌+◌, ◌*◌, ℕ, ℤ, Bool, if◌then◌else◌}
use Rattle.quant_math.specs.Levels.{coarser_level}

-- a weight, the scales of the source and of the version, and the kind of block as one number
abbrev pub change_number : ℕ → ℕ → ℕ → Bool → ℕ
change_number weight from to intra = weight + 256 * from + 32768 * to + 4194304 * (if intra then 1 else 0)

-- a level becomes this one at each weight and under each two scales that have this number
abbrev pub BecomesBy : ℤ → ℕ → ℤ → Type 0
BecomesBy level number made =
    (weight from to : ℕ) (intra : Bool) → weight < 256 → from < 128 → to < 128 → number ≡ change_number weight from to intra → made ≡ coarser_level level weight from to intra
