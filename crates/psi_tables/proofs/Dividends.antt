-- The number that is divided for the CRC of bytes.
use Rattle.std.proofs.Common.{
  ◌≡◌,
  ℕ,
  zero,
  suc,
  ◌+◌,
  ◌-◌,
  ◌*◌,
  ◌^◌,
  ◌%◌,
  ◌<◌,
  ◌≤◌,
  List,
  [],
  ◌∷◌,
  ◌++◌,
  length,
  map,
  take,
  drop,
  replicate,
  refl,
  sym,
  ap,
  ap₂,
  subst,
  ◌∙◌,
  arith,
  length-append,
  add-zero,
  pow-suc,
  length-take,
  length-drop,
}
use Rattle.std.specs.Int.Bits.{bit_xor, xor_shifted, xor_zero_r}
use Rattle.std.proofs.lemmas.List.{length-replicate, length-map, take-append-drop, append-nil}
use Rattle.std.proofs.lemmas.Grind.{flat_map-append}
use Rattle.std.proofs.lemmas.Nat.{xor_block, pow_pos, pow-add}
use Rattle.bit_lists.specs.Bits.{number_of}
use Rattle.bit_lists.specs.Fields.{bit_list, bits_of_byte}
use Rattle.bit_lists.proofs.NumberLemmas.{number_of-append, number_of-zeros, number_of-below, AreBits-take, AreBits-drop, AreBits-append, AreBits-zeros, number_of-byte, AreBits-bit_list, AreBits}
use Rattle.bit_lists.proofs.ByteLemmas.{length-bit_list}
use Rattle.psi_tables.specs.Crc.{inverted}
use Rattle.psi_tables.proofs.Xor.{xor_swap, xor_shl}

-- ---- numbers of bits

flipped : (bit : ℕ) → bit < 2 → 1 - bit ≡ bit_xor bit 1
flipped zero low = refl
flipped (suc zero) low = refl
flipped (suc (suc n)) low = absurd (omega (arith, low))

-- all bits inverted, as a sum with ones alone
pub number_of-inverted : (bits : List ℕ) → AreBits bits → number_of (map (λ bit. 1 - bit) bits) ≡ bit_xor (number_of bits) (2 ^ length bits - 1)
unfolding number_of
number_of-inverted [] are = refl
number_of-inverted (bit ∷ bits) are =
    let ones : 2 ^ length (bit ∷ bits) - 1 ≡ 1 * 2 ^ length bits + (2 ^ length bits - 1) = omega (arith, pow-suc 2 (length bits), pow_pos (length bits)) in
    let low : 2 ^ length bits - 1 < 2 ^ length bits = omega (arith, pow_pos (length bits)) in
    ap₂ (λ (x y : ℕ). x + y) (ap₂ (λ (x n : ℕ). x * 2 ^ n) (flipped bit are.0) (length-map bits (λ bit. 1 - bit))) (number_of-inverted bits are.1)
    ∙ sym (xor_block (length bits) bit 1 (number_of bits) (2 ^ length bits - 1) (number_of-below bits are.1) low)
    ∙ ap (bit_xor (number_of (bit ∷ bits))) (sym ones)

-- the first 32 bits inverted, as a sum with 32 ones in their places
pub number_of-first_inverted : (bits : List ℕ) → AreBits bits → 32 ≤ length bits → number_of (inverted bits) ≡ bit_xor (number_of bits) (0xFFFFFFFF * 2 ^ (length bits - 32))
number_of-first_inverted bits are long =
    let front : List ℕ = take 32 bits in
    let behind : List ℕ = drop 32 bits in
    let n : ℕ = length bits - 32 in
    let front_size : length front ≡ 32 = omega (arith, length-take 32 bits) in
    let behind_size : length behind ≡ n = length-drop 32 bits in
    let whole : number_of bits ≡ number_of front * 2 ^ n + number_of behind =
    ap number_of (sym (take-append-drop 32 bits)) ∙ number_of-append front behind ∙ ap (λ (k : ℕ). number_of front * 2 ^ k + number_of behind) behind_size in
    let low : number_of behind < 2 ^ n = subst (λ (k : ℕ). number_of behind < 2 ^ k) behind_size (number_of-below behind (AreBits-drop 32 bits are)) in
    let high : number_of (map (λ bit. 1 - bit) front) ≡ bit_xor (number_of front) 0xFFFFFFFF =
    number_of-inverted front (AreBits-take 32 bits are) ∙ ap (λ (k : ℕ). bit_xor (number_of front) (2 ^ k - 1)) front_size in
    number_of-append (map (λ bit. 1 - bit) front) behind
    ∙ ap₂ (λ (x k : ℕ). x * 2 ^ k + number_of behind) high behind_size
    ∙ ap (λ (x : ℕ). bit_xor (number_of front) 0xFFFFFFFF * 2 ^ n + x) (sym (xor_zero_r (number_of behind)))
    ∙ sym (xor_block n (number_of front) 0xFFFFFFFF (number_of behind) 0 low (pow_pos n))
    ∙ ap₂ bit_xor (sym whole) (add-zero (0xFFFFFFFF * 2 ^ n))

-- ---- numbers of bytes

-- the number that the bits of bytes spell
abbrev pub value : List ℕ → ℕ
value bytes = number_of (bit_list bytes)

pub value-append : (xs ys : List ℕ) → value (xs ++ ys) ≡ value xs * 2 ^ (8 * length ys) + value ys
value-append xs ys =
    ap number_of (flat_map-append bits_of_byte xs ys) ∙ number_of-append (bit_list xs) (bit_list ys)
    ∙ ap (λ (n : ℕ). value xs * 2 ^ n + value ys) (length-bit_list ys)

pub value-byte : (byte : ℕ) → value (byte ∷ []) ≡ byte % 256
value-byte byte = ap number_of (append-nil (bits_of_byte byte)) ∙ number_of-byte byte

pub value-below : (bytes : List ℕ) → value bytes < 2 ^ (8 * length bytes)
value-below bytes = subst (λ (n : ℕ). value bytes < 2 ^ n) (length-bit_list bytes) (number_of-below (bit_list bytes) (AreBits-bit_list bytes))

-- a byte and 32 zero bits
pub number_of-byte_shifted : (byte : ℕ) → byte < 256 → number_of (bits_of_byte byte ++ replicate 32 0) ≡ byte * 2 ^ 32
number_of-byte_shifted byte low =
    number_of-append (bits_of_byte byte) (replicate 32 0) ∙ omega (arith, number_of-byte byte, number_of-zeros 32)

-- ---- what is divided

-- for the CRC of bytes
abbrev pub dividend : List ℕ → ℕ
dividend bytes = number_of (inverted (bit_list bytes ++ replicate 32 0))

-- it is the bytes' number and 32 ones in front of it
pub dividend-is : (bytes : List ℕ) → dividend bytes ≡ bit_xor (value bytes * 2 ^ 32) (0xFFFFFFFF * 2 ^ (8 * length bytes))
dividend-is bytes =
    let zeros : List ℕ = replicate 32 0 in
    let bits : List ℕ = bit_list bytes ++ zeros in
    let size : length bits ≡ 8 * length bytes + 32 = omega (arith, length-append (bit_list bytes) zeros, length-bit_list bytes, length-replicate {A = ℕ} 32 0) in
    let number : number_of bits ≡ value bytes * 2 ^ 32 = omega (arith, number_of-append (bit_list bytes) zeros, number_of-zeros 32) in
    let place : length bits - 32 ≡ 8 * length bytes = omega (arith, size) in
    number_of-first_inverted bits (AreBits-append (bit_list bytes) zeros (AreBits-bit_list bytes) (AreBits-zeros 32)) (omega (arith, size))
    ∙ ap₂ (λ (x k : ℕ). bit_xor x (0xFFFFFFFF * 2 ^ k)) number place

-- with one more byte
pub dividend-push : (bytes : List ℕ) (byte : ℕ) → byte < 256 → dividend (bytes ++ byte ∷ []) ≡ bit_xor (dividend bytes * 2 ^ 8) (byte * 2 ^ 32)
dividend-push bytes byte low =
    let number : value (bytes ++ byte ∷ []) ≡ value bytes * 2 ^ 8 + byte = omega (arith, value-append bytes (byte ∷ []), value-byte byte) in
    let high : ℕ = value bytes * 2 ^ 32 * 2 ^ 8 in
    let ones : ℕ = 0xFFFFFFFF * 2 ^ (8 * length bytes) in
    let first : value (bytes ++ byte ∷ []) * 2 ^ 32 ≡ bit_xor high (byte * 2 ^ 32) =
    omega (arith, number) ∙ sym (xor_shifted (value bytes) 40 (byte * 2 ^ 32) (omega (arith, low))) ∙ ap (λ (x : ℕ). bit_xor x (byte * 2 ^ 32)) (omega arith) in
    let size : 8 * length (bytes ++ byte ∷ []) ≡ 8 * length bytes + 8 = omega (arith, length-append bytes (byte ∷ [])) in
    let second : 0xFFFFFFFF * 2 ^ (8 * length (bytes ++ byte ∷ [])) ≡ ones * 2 ^ 8 =
    ap (λ (k : ℕ). 0xFFFFFFFF * 2 ^ k) size ∙ omega (arith, pow-add 2 (8 * length bytes) 8) in
    dividend-is (bytes ++ byte ∷ [])
    ∙ ap₂ bit_xor first second
    ∙ xor_swap high (byte * 2 ^ 32) (ones * 2 ^ 8)
    ∙ ap (λ (x : ℕ). bit_xor x (byte * 2 ^ 32)) (xor_shl (value bytes * 2 ^ 32) ones 8 ∙ ap (λ (x : ℕ). x * 2 ^ 8) (sym (dividend-is bytes)))

-- for the test of bytes that end with their CRC, of which there are four at least
abbrev pub whole_dividend : List ℕ → ℕ
whole_dividend bytes = number_of (inverted (bit_list bytes))

pub whole_dividend-is : (bytes : List ℕ) → 4 ≤ length bytes → whole_dividend bytes ≡ bit_xor (value bytes) (0xFFFFFFFF * 2 ^ (8 * length bytes - 32))
whole_dividend-is bytes long =
    number_of-first_inverted (bit_list bytes) (AreBits-bit_list bytes) (omega (arith, length-bit_list bytes))
    ∙ ap (λ (k : ℕ). bit_xor (value bytes) (0xFFFFFFFF * 2 ^ (k - 32))) (length-bit_list bytes)

-- the two differ by 32 zero bits
pub dividend-whole : (bytes : List ℕ) → 4 ≤ length bytes → dividend bytes ≡ whole_dividend bytes * 2 ^ 32
dividend-whole bytes long =
    let place : 8 * length bytes ≡ 8 * length bytes - 32 + 32 = omega arith in
    let ones : 0xFFFFFFFF * 2 ^ (8 * length bytes) ≡ 0xFFFFFFFF * 2 ^ (8 * length bytes - 32) * 2 ^ 32 =
    ap (λ (k : ℕ). 0xFFFFFFFF * 2 ^ k) place ∙ omega (arith, pow-add 2 (8 * length bytes - 32) 32) in
    dividend-is bytes ∙ ap (bit_xor (value bytes * 2 ^ 32)) ones ∙ xor_shl (value bytes) (0xFFFFFFFF * 2 ^ (8 * length bytes - 32)) 32
    ∙ ap (λ (x : ℕ). x * 2 ^ 32) (sym (whole_dividend-is bytes long))
