-- The table of remainders, each entry against a division in eight steps.
use Rattle.std.proofs.Common.{
  ap₂,
  add-zero,
  zero-add,
  subst,
  ◌≡◌,
  ℕ,
  zero,
  suc,
  ◌+◌,
  ◌*◌,
  ◌/◌,
  ◌%◌,
  ◌^◌,
  ◌<◌,
  Bool,
  true,
  false,
  cond,
  List,
  [],
  ◌∷◌,
  ◌++◌,
  length,
  get_or,
  replicate,
  refl,
  sym,
  ap,
  ◌∙◌,
  arith,
}
use Rattle.std.specs.Prelude.{◌==◌, ◌&&◌, nat_lt}
use Rattle.std.specs.Int.Bits.{bit_xor, xor_assoc, xor_shifted, xor_zero_r}
use Rattle.std.proofs.lemmas.Bool.{and_parts, ltb-true, eqb-true}
use Rattle.std.proofs.lemmas.Nat.{xor_block, xor_comm, xor_lt, pow_pos}
use Rattle.psi_tables.specs.Crc.{crc_polynomial, multiple, IsRemainder, IsCrcOf}
use Rattle.bit_lists.specs.Fields.{bits_of_byte}
use Rattle.psi_tables.proofs.Xor.{xor_shl}
use Rattle.psi_tables.proofs.Multiples.{multiple-shifted, sum-multiple}
use Rattle.psi_tables.proofs.Dividends.{number_of-byte_shifted, dividend-push}
use Rattle.psi_tables.specs.declared.remainders.TheConstants.{REMAINDERS}

-- k steps of a long division
quotient_of : ℕ → ℕ → List Bool
quotient_of zero n = []
quotient_of (suc k) n = cond (n / 2 ^ (32 + k) % 2 == 1) (true ∷ quotient_of k (bit_xor n (crc_polynomial * 2 ^ k))) (false ∷ quotient_of k n)

-- the entry is the remainder of the byte
is_remainder : ℕ → ℕ → Bool
is_remainder byte entry = (byte * 2 ^ 32 == bit_xor (multiple (quotient_of 8 (byte * 2 ^ 32))) entry) && nat_lt entry (2 ^ 32)

-- the entries are the remainders of the bytes from this one on
are_remainders : ℕ → List ℕ → Bool
are_remainders byte [] = true
are_remainders byte (entry ∷ entries) = is_remainder byte entry && are_remainders (byte + 1) entries

all_remainders : are_remainders 0 REMAINDERS ≡ true
unfolding quotient_of is_remainder are_remainders
all_remainders = refl

each_passes : (byte : ℕ) (entries : List ℕ) (k : ℕ) → k < length entries → are_remainders byte entries ≡ true → is_remainder (byte + k) (get_or entries k 0) ≡ true
unfolding are_remainders
each_passes byte [] k within pass = absurd (omega (arith, within))
each_passes byte (entry ∷ entries) zero within pass =
    let here : byte + 0 ≡ byte = omega arith in
    rw here (and_parts (is_remainder byte entry) (are_remainders (byte + 1) entries) pass).0
each_passes byte (entry ∷ entries) (suc k) within pass =
    let there : byte + suc k ≡ byte + 1 + k = omega arith in
    rw there (each_passes (byte + 1) entries k (omega (arith, within)) (and_parts (is_remainder byte entry) (are_remainders (byte + 1) entries) pass).1)

one_passes : (byte entry : ℕ) → byte < 256 → is_remainder byte entry ≡ true → IsRemainder entry (bits_of_byte byte ++ replicate 32 0)
unfolding is_remainder
one_passes byte entry low passes =
    let quotient : List Bool = quotient_of 8 (byte * 2 ^ 32) in
    let parts = and_parts (byte * 2 ^ 32 == bit_xor (multiple quotient) entry) (nat_lt entry (2 ^ 32)) passes in
    record {
      quotient = quotient;
      below = ltb-true entry (2 ^ 32) parts.1;
      dividend = number_of-byte_shifted byte low ∙ eqb-true (byte * 2 ^ 32) (bit_xor (multiple quotient) entry) parts.0;
    }

-- the entry of each byte
pub entry_is : (byte : ℕ) → byte < 256 → IsRemainder (get_or REMAINDERS byte 0) (bits_of_byte byte ++ replicate 32 0)
entry_is byte low = one_passes byte (get_or REMAINDERS byte 0) low
    (subst (λ (n : ℕ). is_remainder n (get_or REMAINDERS byte 0) ≡ true) (zero-add byte) (each_passes 0 REMAINDERS byte low all_remainders))

-- ---- one more byte behind

-- the register's high byte goes through the table, and the rest is shifted
pub with_byte : (crc byte entry : ℕ) (bytes : List ℕ) → byte < 256 → IsCrcOf crc bytes
    → IsRemainder entry (bits_of_byte (bit_xor (crc / 2 ^ 24) byte) ++ replicate 32 0)
    → IsCrcOf (bit_xor (crc % 2 ^ 24 * 2 ^ 8) entry) (bytes ++ byte ∷ [])
with_byte crc byte entry bytes low is entry_is =
    let first : ℕ = bit_xor (crc / 2 ^ 24) byte in
    let rest : ℕ = crc % 2 ^ 24 * 2 ^ 8 in
    let first_low : first < 256 = xor_lt 8 (crc / 2 ^ 24) byte (omega (arith, is.below)) low in
    let rest_low : rest < 2 ^ 32 = omega arith in
    let total = sum-multiple (is.quotient ++ replicate 8 false) entry_is.quotient in
    let parts : crc * 2 ^ 8 ≡ crc / 2 ^ 24 * 2 ^ 32 + rest = omega arith in
    let mixed : bit_xor (crc * 2 ^ 8) (byte * 2 ^ 32) ≡ bit_xor (multiple entry_is.quotient) (bit_xor rest entry) =
    ap₂ bit_xor parts (sym (add-zero (byte * 2 ^ 32)))
    ∙ xor_block 32 (crc / 2 ^ 24) byte rest 0 rest_low (pow_pos 32)
    ∙ ap (λ (x : ℕ). first * 2 ^ 32 + x) (xor_zero_r rest)
    ∙ sym (xor_shifted first 32 rest rest_low)
    ∙ ap (λ (x : ℕ). bit_xor x rest) (sym (number_of-byte_shifted first first_low) ∙ entry_is.dividend)
    ∙ xor_assoc (multiple entry_is.quotient) entry rest
    ∙ ap (bit_xor (multiple entry_is.quotient)) (xor_comm entry rest) in
    record {
      quotient = total.0;
      below = xor_lt 32 rest entry rest_low entry_is.below;
      dividend =
          dividend-push bytes byte low
          ∙ ap (λ (x : ℕ). bit_xor (x * 2 ^ 8) (byte * 2 ^ 32)) is.dividend
          ∙ ap (λ (x : ℕ). bit_xor x (byte * 2 ^ 32)) (sym (xor_shl (multiple is.quotient) crc 8))
          ∙ xor_assoc (multiple is.quotient * 2 ^ 8) (crc * 2 ^ 8) (byte * 2 ^ 32)
          ∙ ap₂ bit_xor (sym (multiple-shifted is.quotient 8)) mixed
          ∙ sym (xor_assoc (multiple (is.quotient ++ replicate 8 false)) (multiple entry_is.quotient) (bit_xor rest entry))
          ∙ ap (λ (x : ℕ). bit_xor x (bit_xor rest entry)) (sym total.1);
    }
