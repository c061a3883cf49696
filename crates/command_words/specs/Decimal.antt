-- Numbers in decimal.
use Rattle.std.specs.Prelude.{◌≡◌, ◌<◌, ◌^◌, ℕ, List, Option, Some, None, decimal}

-- the number that a word is in decimal without sign or needless leading zero, or none where it is none below 2^64
abbrev pub IsDecimal : List ℕ → Option ℕ → Type 0
IsDecimal word (Some n) = (n < 2 ^ 64) × (word ≡ decimal n)
IsDecimal word None = (n : ℕ) → n < 2 ^ 64 → word ≡ decimal n → ⊥
