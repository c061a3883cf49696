-- What the definitions of the CRC say together.
use Rattle.std.proofs.Common.{
  ◌≡◌,
  inl,
  inr,
  ℕ,
  ◌+◌,
  ◌-◌,
  ◌*◌,
  ◌/◌,
  ◌%◌,
  ◌^◌,
  ◌<◌,
  ◌≤◌,
  ◌↔◌,
  Bool,
  false,
  List,
  [],
  ◌∷◌,
  ◌++◌,
  length,
  replicate,
  refl,
  sym,
  ap,
  ap₂,
  ◌∙◌,
  arith,
  lit<,
  length-append,
  subst,
}
use Rattle.std.specs.Int.{w32, to_be_bytes}
use Rattle.std.specs.Int.Bits.{bit_xor, xor_shifted, xor_zero_r}
use Rattle.std.proofs.Math.Nat.{mul_assoc}
use Rattle.std.proofs.lemmas.Bool.{cases_lt}
use Rattle.std.proofs.lemmas.Nat.{xor_lt, pow-add, shl_below}
use Rattle.bit_lists.specs.Bits.{number_of}
use Rattle.psi_tables.specs.Crc.{multiple, IsCrcOf, HasRightCrc}
use Rattle.psi_tables.specs.Section.{IsWithCrc}
use Rattle.psi_tables.proofs.Xor.{xor_shl, xor_swap, xor_twice, same_from_xor}
use Rattle.psi_tables.proofs.Multiples.{one_remainder, none_or_great, divided, multiple-shifted}
use Rattle.psi_tables.proofs.Dividends.{value, value-append, value-byte, value-below, dividend, dividend-is, dividend-whole, whole_dividend, whole_dividend-is}

-- of no bytes
pub crc_of_none : IsCrcOf 0xFFFFFFFF []
unfolding number_of
crc_of_none = record { quotient = []; below = lit< tt; dividend = refl }

-- fewer than four bytes have 32 ones behind them that no multiple of the polynomial cancels
short_crc : (bytes : List ℕ) (q : List Bool) → length bytes < 4 → dividend bytes ≡ multiple q → ⊥
short_crc bytes q short is =
    let n : ℕ = 8 * length bytes in
    let front : ℕ = value bytes * 2 ^ (32 - n) in
    let whole : n ≤ 31 = omega arith in
    let place : 32 ≡ 32 - n + n = omega (arith, whole) in
    let place_less : 32 - n ≡ 31 - n + 1 = omega (arith, whole) in
    let even : front ≡ value bytes * 2 ^ (31 - n) * 2 =
    ap (λ (k : ℕ). value bytes * 2 ^ k) place_less ∙ ap (λ (p : ℕ). value bytes * p) (pow-add 2 (31 - n) 1) ∙ sym (mul_assoc (value bytes) (2 ^ (31 - n)) 2) in
    let shifted : value bytes * 2 ^ 32 ≡ front * 2 ^ n =
    ap (λ (k : ℕ). value bytes * 2 ^ k) place ∙ ap (λ (p : ℕ). value bytes * p) (pow-add 2 (32 - n) n) ∙ sym (mul_assoc (value bytes) (2 ^ (32 - n)) (2 ^ n)) in
    let total : bit_xor front 0xFFFFFFFF * 2 ^ n ≡ multiple q =
    sym (xor_shl front 0xFFFFFFFF n) ∙ ap (λ (x : ℕ). bit_xor x (0xFFFFFFFF * 2 ^ n)) (sym shifted) ∙ sym (dividend-is bytes) ∙ is in
    let quotient = divided n (bit_xor front 0xFFFFFFFF) q total in
    let front_low : front < 2 ^ (n + (32 - n)) = shl_below (value bytes) n (32 - n) (value-below bytes) in
    let size : n + (32 - n) ≡ 32 = omega (arith, whole) in
    let low : bit_xor front 0xFFFFFFFF < 2 ^ 32 = xor_lt 32 front 0xFFFFFFFF (subst (λ (k : ℕ). front < 2 ^ k) size front_low) (lit< tt) in
    elim (none_or_great quotient.0) [
      | inl none ↦ omega (arith, even, same_from_xor front 0xFFFFFFFF (quotient.1 ∙ none))
      | inr great ↦ omega (arith, great, low, quotient.1)
    ]

-- bytes leave 0 exactly where they end with their CRC
pub zero_is_right : (crc : ℕ) (bytes : List ℕ) → IsCrcOf crc bytes → (crc ≡ 0) ↔ HasRightCrc bytes
zero_is_right crc bytes is = (forward, backward)
  where
    forward : crc ≡ 0 → HasRightCrc bytes
    forward none =
        let exact : dividend bytes ≡ multiple is.quotient = is.dividend ∙ ap (bit_xor (multiple is.quotient)) none ∙ xor_zero_r (multiple is.quotient) in
        elim (cases_lt (length bytes) 4) [
          | inl short ↦ absurd (short_crc bytes is.quotient short exact)
          | inr long ↦
              let quotient = divided 32 (whole_dividend bytes) is.quotient (sym (dividend-whole bytes long) ∙ exact) in
              (long, record { quotient = quotient.0; below = lit< tt; dividend = quotient.1 ∙ sym (xor_zero_r (multiple quotient.0)) })
        ]

    backward : HasRightCrc bytes → crc ≡ 0
    backward right =
        let q : List Bool = right.1.quotient in
        let exact : dividend bytes ≡ bit_xor (multiple (q ++ replicate 32 false)) 0 =
        dividend-whole bytes right.0 ∙ ap (λ (x : ℕ). x * 2 ^ 32) (right.1.dividend ∙ xor_zero_r (multiple q)) ∙ sym (multiple-shifted q 32) ∙ sym (xor_zero_r (multiple (q ++ replicate 32 false))) in
        one_remainder crc 0 _ is (record { quotient = q ++ replicate 32 false; below = lit< tt; dividend = exact })

-- the number in four bytes
value-four : (n : ℕ) → n < 2 ^ 32 → value (to_be_bytes w32 n) ≡ n
value-four n low =
    let more : (byte : ℕ) (bytes : List ℕ) → value (byte ∷ bytes) ≡ byte % 256 * 2 ^ (8 * length bytes) + value bytes = λ byte bytes.
    value-append (byte ∷ []) bytes ∙ ap (λ (x : ℕ). x * 2 ^ (8 * length bytes) + value bytes) (value-byte byte) in
    omega (
      arith,
      more (n / 16777216 % 256) (n / 65536 % 256 ∷ n / 256 % 256 ∷ n % 256 ∷ []),
      more (n / 65536 % 256) (n / 256 % 256 ∷ n % 256 ∷ []),
      more (n / 256 % 256) (n % 256 ∷ []),
      value-byte (n % 256),
    )

-- with their CRC behind them bytes end with it
pub with_crc_is_right : (front bytes : List ℕ) → IsWithCrc front bytes → HasRightCrc bytes
with_crc_is_right front bytes is =
    let crc : ℕ = is.crc in
    let q : List Bool = is.crc_is.quotient in
    let size : length bytes ≡ length front + 4 = omega (arith, ap length is.joined, length-append front (to_be_bytes w32 crc)) in
    let place : 8 * length bytes - 32 ≡ 8 * length front = omega (arith, size) in
    let number : value bytes ≡ bit_xor (value front * 2 ^ 32) crc =
    ap value is.joined ∙ value-append front (to_be_bytes w32 crc) ∙ ap (λ (x : ℕ). value front * 2 ^ 32 + x) (value-four crc is.crc_is.below)
    ∙ sym (xor_shifted (value front) 32 crc is.crc_is.below) in
    let exact : whole_dividend bytes ≡ multiple q =
    whole_dividend-is bytes (omega (arith, size))
    ∙ ap₂ (λ (x k : ℕ). bit_xor x (0xFFFFFFFF * 2 ^ k)) number place
    ∙ xor_swap (value front * 2 ^ 32) crc (0xFFFFFFFF * 2 ^ (8 * length front))
    ∙ ap (λ (x : ℕ). bit_xor x crc) (sym (dividend-is front) ∙ is.crc_is.dividend)
    ∙ xor_twice (multiple q) crc in
    (omega (arith, size), record { quotient = q; below = lit< tt; dividend = exact ∙ sym (xor_zero_r (multiple q)) })
