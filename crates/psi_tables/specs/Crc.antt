-- The CRC of sections as a division of polynomials over one bit (ISO/IEC 13818-1, Annex A). A polynomial is the number
-- that its coefficients spell, the power 0 last, and polynomials are added by an exclusive or.
use Rattle.std.specs.Prelude.{◌≡◌, ℕ, ◌-◌, ◌*◌, ◌^◌, ◌<◌, ◌≤◌, bit_xor, Bool, true, false, List, [], ◌∷◌, ◌++◌, length, take, drop, map, replicate}
use Rattle.bit_lists.specs.Bits.{number_of}
use Rattle.bit_lists.specs.Fields.{bit_list}

-- x^32 + x^26 + x^23 + x^22 + x^16 + x^12 + x^11 + x^10 + x^8 + x^7 + x^5 + x^4 + x^2 + x + 1
abbrev pub crc_polynomial : ℕ
crc_polynomial = 0x104C11DB7

-- the product of the polynomial and a quotient, which says of each power whether it has it, the power 0 last
abbrev pub multiple : List Bool → ℕ
multiple [] = 0
multiple (true ∷ powers) = bit_xor (crc_polynomial * 2 ^ length powers) (multiple powers)
multiple (false ∷ powers) = multiple powers

-- the bits leave the remainder where the polynomial divides them
pub record IsRemainder (remainder : ℕ) (bits : List ℕ) : Type 0 where
  pub quotient : List Bool
  pub below : remainder < 2 ^ 32
  pub dividend : number_of bits ≡ bit_xor (multiple quotient) remainder

-- the first 32 bits inverted
abbrev pub inverted : List ℕ → List ℕ
inverted bits = map (λ bit. 1 - bit) (take 32 bits) ++ drop 32 bits

-- the CRC_32 of bytes: their bits and 32 zero bits, the first 32 inverted, leave it
abbrev pub IsCrcOf : ℕ → List ℕ → Type 0
IsCrcOf crc bytes = IsRemainder crc (inverted (bit_list bytes ++ replicate 32 0))

-- the bytes end with their CRC_32: all their bits, the first 32 inverted, leave 0
abbrev pub HasRightCrc : List ℕ → Type 0
HasRightCrc bytes = (4 ≤ length bytes) × IsRemainder 0 (inverted (bit_list bytes))
