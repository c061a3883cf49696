-- A long division leaves the remainder of Annex A.
use Rattle.std.proofs.Common.{
  ◌≡◌,
  ℕ,
  zero,
  suc,
  ◌+◌,
  ◌-◌,
  ◌*◌,
  ◌%◌,
  ◌^◌,
  ◌<◌,
  ◌≤◌,
  Bool,
  true,
  false,
  cond,
  List,
  [],
  ◌∷◌,
  ◌++◌,
  map,
  take,
  drop,
  replicate,
  refl,
  sym,
  ap,
  ap₂,
  ◌∙◌,
  subst,
  append_assoc,
  arith,
  ⊎_elim,
  lit<,
  zero-add,
}
use Rattle.std.specs.Int.Bits.{bit_xor}
use Rattle.std.proofs.lemmas.Bool.{cases_lt, lt-ltb, le-ltb}
use Rattle.std.proofs.lemmas.Nat.{xor_block, xor_comm, xor_lt}
use Rattle.std.proofs.lemmas.List.{append-nil}
use Rattle.bit_lists.specs.Bits.{number_of}
use Rattle.bit_lists.specs.Fields.{bit_list}
use Rattle.bit_lists.proofs.NumberLemmas.{number_of-append, AreBits-zeros, AreBits}
use Rattle.psi_tables.specs.Crc.{crc_polynomial, multiple, inverted, IsRemainder, IsCrcOf}
use Rattle.psi_tables.specs.Sections.{brought_down, remainder_on, crc_over}
use Rattle.psi_tables.proofs.Multiples.{multiple-append, multiple-shifted, one_remainder}
use Rattle.psi_tables.proofs.Xor.{xor_shared}

-- ---- the bits that are divided

AreBits-inverted : (n : ℕ) (bits : List ℕ) → AreBits bits → AreBits (map (λ bit. 1 - bit) (take n bits) ++ drop n bits)
AreBits-inverted zero bits are = are
AreBits-inverted (suc n) [] are = tt
AreBits-inverted (suc n) (bit ∷ bits) are = (omega arith, AreBits-inverted n bits are.1)

AreBits-bytes : (bytes : List ℕ) → AreBits (bit_list bytes ++ replicate 32 0)
AreBits-bytes [] = AreBits-zeros 32
AreBits-bytes (byte ∷ bytes) =
    let low : (n : ℕ) → n % 2 < 2 = λ n. omega arith in
    (low _, (low _, (low _, (low _, (low _, (low _, (low _, (low _, AreBits-bytes bytes))))))))

-- ---- one step

number_of-push : (front : List ℕ) (bit : ℕ) → number_of (front ++ bit ∷ []) ≡ number_of front * 2 ^ 1 + bit
unfolding number_of
number_of-push front bit = omega (arith, number_of-append front (bit ∷ []))

step-dividend : (front : List ℕ) (r bit : ℕ) → bit < 2 → (is : IsRemainder r front) → number_of (front ++ bit ∷ []) ≡ bit_xor (multiple is.quotient * 2 ^ 1) (2 * r + bit)
step-dividend front r bit low is =
    let joined : bit_xor (multiple is.quotient * 2 ^ 1 + 0) (r * 2 ^ 1 + bit) ≡ bit_xor (multiple is.quotient) r * 2 ^ 1 + bit_xor 0 bit = xor_block 1 (multiple is.quotient) r 0 bit (lit< tt) low in
    let left : multiple is.quotient * 2 ^ 1 + 0 ≡ multiple is.quotient * 2 ^ 1 = omega arith in
    let right : r * 2 ^ 1 + bit ≡ 2 * r + bit = omega arith in
    let alone : bit_xor 0 bit ≡ bit = xor_none bit low in
    number_of-push front bit ∙ ap (λ (n : ℕ). n * 2 ^ 1 + bit) is.dividend ∙ ap (λ (b : ℕ). bit_xor (multiple is.quotient) r * 2 ^ 1 + b) (sym alone) ∙ sym joined ∙ ap₂ bit_xor left right
  where
    xor_none : (b : ℕ) → b < 2 → bit_xor 0 b ≡ b
    xor_none zero below = refl
    xor_none (suc zero) below = refl
    xor_none (suc (suc n)) below = absurd (omega (arith, below))

-- the polynomial takes the leading term away
reduced-below : (y : ℕ) → 2 ^ 32 ≤ y → y < 2 ^ 33 → bit_xor y crc_polynomial < 2 ^ 32
reduced-below y high low =
    let split : bit_xor (1 * 2 ^ 32 + (y - 2 ^ 32)) (1 * 2 ^ 32 + 0x04C11DB7)
    ≡ bit_xor 1 1 * 2 ^ 32 + bit_xor (y - 2 ^ 32) 0x04C11DB7 = xor_block 32 1 1 (y - 2 ^ 32) 0x04C11DB7 (omega (arith, high, low)) (lit< tt) in
    let is : 1 * 2 ^ 32 + (y - 2 ^ 32) ≡ y = omega (arith, high) in
    let below : bit_xor (y - 2 ^ 32) 0x04C11DB7 < 2 ^ 32 = xor_lt 32 (y - 2 ^ 32) 0x04C11DB7 (omega (arith, high, low)) (lit< tt) in
    let same : bit_xor y crc_polynomial ≡ bit_xor (y - 2 ^ 32) 0x04C11DB7 = ap (λ (n : ℕ). bit_xor n crc_polynomial) (sym is) ∙ split ∙ zero-add (bit_xor (y - 2 ^ 32) 0x04C11DB7) in
    omega (arith, same, below)

divided-step : (front : List ℕ) (r bit : ℕ) → bit < 2 → IsRemainder r front → IsRemainder (brought_down r bit) (front ++ bit ∷ [])
divided-step front r bit low is =
    let dividend = step-dividend front r bit low is in
    ⊎_elim
    (λ small.
    let stays : brought_down r bit ≡ 2 * r + bit = ap (λ (fits : Bool). cond fits (2 * r + bit) (bit_xor (2 * r + bit) crc_polynomial)) (lt-ltb (2 * r + bit) (2 ^ 32) small) in
    let remainder : IsRemainder (2 * r + bit) (front ++ bit ∷ []) =
    record { quotient = is.quotient ++ false ∷ []; below = small; dividend = dividend ∙ ap (λ (m : ℕ). bit_xor m (2 * r + bit)) (sym (multiple-shifted is.quotient 1)) } in
    subst (λ (n : ℕ). IsRemainder n (front ++ bit ∷ [])) (sym stays) remainder)
    (λ great.
    let goes : brought_down r bit ≡ bit_xor (2 * r + bit) crc_polynomial = ap (λ (fits : Bool). cond fits (2 * r + bit) (bit_xor (2 * r + bit) crc_polynomial)) (le-ltb (2 * r + bit) (2 ^ 32) great) in
    let more : bit_xor (multiple (is.quotient ++ true ∷ [])) (bit_xor (2 * r + bit) crc_polynomial) ≡ bit_xor (multiple is.quotient * 2 ^ 1) (2 * r + bit) =
    ap₂ bit_xor (multiple-append is.quotient (true ∷ []) ∙ xor_comm (multiple is.quotient * 2 ^ 1) crc_polynomial)
    (xor_comm (2 * r + bit) crc_polynomial) ∙ xor_shared crc_polynomial (multiple is.quotient * 2 ^ 1) (2 * r + bit) in
    let remainder : IsRemainder (bit_xor (2 * r + bit) crc_polynomial) (front ++ bit ∷ []) =
    record { quotient = is.quotient ++ true ∷ []; below = reduced-below (2 * r + bit) great (omega (arith, is.below, low)); dividend = dividend ∙ sym more } in
    subst (λ (n : ℕ). IsRemainder n (front ++ bit ∷ [])) (sym goes) remainder)
    (cases_lt (2 * r + bit) (2 ^ 32))

-- ---- the whole division

divided-on : (front : List ℕ) (r : ℕ) (bits : List ℕ) → AreBits bits → IsRemainder r front → IsRemainder (remainder_on r bits) (front ++ bits)
divided-on front r [] are is = subst (λ (bs : List ℕ). IsRemainder r bs) (sym (append-nil front)) is
divided-on front r (bit ∷ bits) are is =
    subst (λ (bs : List ℕ). IsRemainder (remainder_on (brought_down r bit) bits) bs) (append_assoc front (bit ∷ []) bits)
    (divided-on (front ++ bit ∷ []) (brought_down r bit) bits are.1 (divided-step front r bit are.0 is))

nothing-divided : IsRemainder 0 []
unfolding number_of
nothing-divided = record { quotient = []; below = lit< tt; dividend = refl }

pub crc_over-is : (bytes : List ℕ) → IsCrcOf (crc_over bytes) bytes
unfolding crc_over
crc_over-is bytes = divided-on [] 0 (inverted (bit_list bytes ++ replicate 32 0)) (AreBits-inverted 32 (bit_list bytes ++ replicate 32 0) (AreBits-bytes bytes)) nothing-divided

-- the CRC of bytes is one
pub crc_over-only : (bytes : List ℕ) (crc : ℕ) → IsCrcOf crc bytes → crc ≡ crc_over bytes
crc_over-only bytes crc is = one_remainder crc (crc_over bytes) (inverted (bit_list bytes ++ replicate 32 0)) is (crc_over-is bytes)
