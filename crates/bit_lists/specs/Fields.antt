-- Numbers and flags in the bits of bytes (ISO/IEC 13818-1, 2.2.6).
use Rattle.std.specs.Prelude.{ℕ, zero, suc, ◌+◌, ◌-◌, ◌*◌, ◌/◌, ◌%◌, ◌^◌, ◌<◌, Bool, List, [], ◌∷◌, slice_index, if◌then◌else◌}
use Rattle.std.specs.List.{flat_map, AllByRecursion}
use Rattle.std.specs.Int.{bit_at}

-- bit i of the bytes, bit 0 being the most significant one of the first byte; past the end all are 0
unfoldable pub bit : List ℕ → ℕ → ℕ
bit bytes i = bit_at (slice_index bytes (i / 8)) (7 - i % 8)

-- the unsigned number in n bits from bit `first` on, most significant bit first (uimsbf)
unfoldable pub bits : List ℕ → ℕ → ℕ → ℕ
bits bytes first zero = 0
bits bytes first (suc n) = 2 * bits bytes first n + bit bytes (first + n)

-- bytes, as numbers below 256
abbrev pub AreBytes : List ℕ → Type 0
AreBytes bytes = AllByRecursion (λ byte. byte < 2 ^ 8) bytes

-- a byte's bits, most significant first
abbrev pub bits_of_byte : ℕ → List ℕ
bits_of_byte byte =
    bit_at byte 7 ∷ bit_at byte 6 ∷ bit_at byte 5 ∷ bit_at byte 4 ∷ bit_at byte 3 ∷ bit_at byte 2 ∷ bit_at byte 1 ∷ bit_at byte 0 ∷ []

-- all bits of the bytes in order
abbrev pub bit_list : List ℕ → List ℕ
bit_list bytes = flat_map bits_of_byte bytes

-- a flag as a number of one bit
abbrev pub flag : Bool → ℕ
flag is_set = if is_set then 1 else 0
