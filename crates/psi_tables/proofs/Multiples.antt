-- Multiples of the polynomial of the CRC.
use Rattle.std.proofs.Common.{
  ◌≡◌,
  ◌⊎◌,
  inl,
  inr,
  ℕ,
  zero,
  suc,
  ◌+◌,
  ◌*◌,
  ◌^◌,
  ◌%◌,
  ◌<◌,
  ◌≤◌,
  Bool,
  true,
  false,
  List,
  [],
  ◌∷◌,
  ◌++◌,
  length,
  replicate,
  refl,
  sym,
  ap,
  ap₂,
  ◌∙◌,
  arith,
  length-append,
  pow-suc,
  lit<,
}
use Rattle.std.specs.Int.Bits.{bit_xor, xor_assoc, xor_zero_r}
use Rattle.std.proofs.Math.Nat.{mul_assoc}
use Rattle.std.proofs.lemmas.List.{length-replicate}
use Rattle.std.proofs.lemmas.Nat.{xor_comm, xor_block, xor_lt, xor_mod, pow_pos, pow-add, pow_below}
use Rattle.psi_tables.specs.Crc.{crc_polynomial, multiple, IsRemainder}
use Rattle.psi_tables.proofs.Xor.{xor_shared, xor_shl, same_from_xor}

-- ---- quotients one behind the other

pub multiple-append : (q r : List Bool) → multiple (q ++ r) ≡ bit_xor (multiple q * 2 ^ length r) (multiple r)
multiple-append [] r = let none : 0 * 2 ^ length r ≡ 0 = omega arith in rw none refl
multiple-append (false ∷ q) r = multiple-append q r
multiple-append (true ∷ q) r =
    let first : crc_polynomial * 2 ^ length (q ++ r) ≡ crc_polynomial * 2 ^ length q * 2 ^ length r =
    ap (λ (n : ℕ). crc_polynomial * 2 ^ n) (length-append q r) ∙ ap (λ (p : ℕ). crc_polynomial * p) (pow-add 2 (length q) (length r)) ∙ omega arith in
    ap₂ bit_xor first (multiple-append q r)
    ∙ sym (xor_assoc (crc_polynomial * 2 ^ length q * 2 ^ length r) (multiple q * 2 ^ length r) (multiple r))
    ∙ ap (λ (x : ℕ). bit_xor x (multiple r)) (xor_shl (crc_polynomial * 2 ^ length q) (multiple q) (length r))

-- no powers
pub multiple-none : (n : ℕ) → multiple (replicate n false) ≡ 0
multiple-none zero = refl
multiple-none (suc n) = multiple-none n

-- a quotient shifted
pub multiple-shifted : (q : List Bool) (n : ℕ) → multiple (q ++ replicate n false) ≡ multiple q * 2 ^ n
multiple-shifted q n =
    multiple-append q (replicate n false)
    ∙ ap₂ bit_xor (ap (λ (k : ℕ). multiple q * 2 ^ k) (length-replicate n false)) (multiple-none n) ∙ xor_zero_r (multiple q * 2 ^ n)

-- a quotient with more powers that it doesn't have
pub multiple-padded : (n : ℕ) (q : List Bool) → multiple (replicate n false ++ q) ≡ multiple q
multiple-padded zero q = refl
multiple-padded (suc n) q = multiple-padded n q

-- ---- sums of multiples

-- the sum of two quotients of one length
sum_of : List Bool → List Bool → List Bool
sum_of [] r = []
sum_of (x ∷ q) [] = []
sum_of (true ∷ q) (true ∷ r) = false ∷ sum_of q r
sum_of (true ∷ q) (false ∷ r) = true ∷ sum_of q r
sum_of (false ∷ q) (y ∷ r) = y ∷ sum_of q r

length-sum_of : (q r : List Bool) → length q ≡ length r → length (sum_of q r) ≡ length r
unfolding sum_of
length-sum_of [] r same = same
length-sum_of (x ∷ q) [] same = absurd (omega (arith, same))
length-sum_of (true ∷ q) (true ∷ r) same = ap suc (length-sum_of q r (omega (arith, same)))
length-sum_of (true ∷ q) (false ∷ r) same = ap suc (length-sum_of q r (omega (arith, same)))
length-sum_of (false ∷ q) (y ∷ r) same = ap suc (length-sum_of q r (omega (arith, same)))

multiple-sum_of : (q r : List Bool) → length q ≡ length r → multiple (sum_of q r) ≡ bit_xor (multiple q) (multiple r)
unfolding sum_of
multiple-sum_of [] [] same = refl
multiple-sum_of [] (y ∷ r) same = absurd (omega (arith, same))
multiple-sum_of (x ∷ q) [] same = absurd (omega (arith, same))
multiple-sum_of (true ∷ q) (true ∷ r) same =
    let less : length q ≡ length r = omega (arith, same) in
    multiple-sum_of q r less
    ∙ sym (xor_shared (crc_polynomial * 2 ^ length q) (multiple q) (multiple r))
    ∙ ap (λ (n : ℕ). bit_xor (bit_xor (crc_polynomial * 2 ^ length q) (multiple q)) (bit_xor (crc_polynomial * 2 ^ n) (multiple r))) less
multiple-sum_of (true ∷ q) (false ∷ r) same =
    let less : length q ≡ length r = omega (arith, same) in
    ap₂ bit_xor (ap (λ (n : ℕ). crc_polynomial * 2 ^ n) (length-sum_of q r less ∙ sym less)) (multiple-sum_of q r less)
    ∙ sym (xor_assoc (crc_polynomial * 2 ^ length q) (multiple q) (multiple r))
multiple-sum_of (false ∷ q) (false ∷ r) same = multiple-sum_of q r (omega (arith, same))
multiple-sum_of (false ∷ q) (true ∷ r) same =
    let less : length q ≡ length r = omega (arith, same) in
    ap₂ bit_xor (ap (λ (n : ℕ). crc_polynomial * 2 ^ n) (length-sum_of q r less)) (multiple-sum_of q r less)
    ∙ sym (xor_assoc (crc_polynomial * 2 ^ length r) (multiple q) (multiple r))
    ∙ ap (λ (x : ℕ). bit_xor x (multiple r)) (xor_comm (crc_polynomial * 2 ^ length r) (multiple q))
    ∙ xor_assoc (multiple q) (crc_polynomial * 2 ^ length r) (multiple r)

-- the sum of two multiples is one
pub sum-multiple : (q r : List Bool) → (s : List Bool) × (multiple s ≡ bit_xor (multiple q) (multiple r))
sum-multiple q r =
    let long : List Bool = replicate (length r) false ++ q in
    let wide : List Bool = replicate (length q) false ++ r in
    let same : length long ≡ length wide =
    omega (arith, length-append (replicate (length r) false) q, length-append (replicate (length q) false) r, length-replicate (length r) false, length-replicate (length q) false) in
    (sum_of long wide, multiple-sum_of long wide same ∙ ap₂ bit_xor (multiple-padded (length r) q) (multiple-padded (length q) r))

-- ---- how great multiples are

polynomial_parts : (n : ℕ) → crc_polynomial * 2 ^ n ≡ 1 * 2 ^ (32 + n) + 0x04C11DB7 * 2 ^ n
polynomial_parts n = omega (arith, pow-add 2 32 n)

low_part : (n : ℕ) → 0x04C11DB7 * 2 ^ n < 2 ^ (32 + n)
low_part n = omega (arith, pow-add 2 32 n, pow_pos n)

below_at : (q : List Bool) (n : ℕ) → n ≡ 32 + length q → multiple q < 2 ^ n
below_at [] n at = rw at (lit< tt)
below_at (false ∷ q) n at = omega (arith, below_at q (32 + length q) refl, pow_below (32 + length q) n (omega (arith, at)))
below_at (true ∷ q) n at =
    let more : n ≡ suc (32 + length q) = omega (arith, at) in
    let twice : 2 ^ n ≡ 2 ^ (32 + length q) * 2 = ap (λ (k : ℕ). 2 ^ k) more ∙ pow-suc 2 (32 + length q) in
    xor_lt n (crc_polynomial * 2 ^ length q) (multiple q)
    (omega (arith, twice, polynomial_parts (length q), low_part (length q)))
    (omega (arith, twice, below_at q (32 + length q) refl, pow_pos (32 + length q)))

pub multiple-below : (q : List Bool) → multiple q < 2 ^ (32 + length q)
multiple-below q = below_at q (32 + length q) refl

-- a multiple is 0 or has a power that the remainder can't have
pub none_or_great : (q : List Bool) → (multiple q ≡ 0) ⊎ (2 ^ 32 ≤ multiple q)
none_or_great [] = inl refl
none_or_great (false ∷ q) = none_or_great q
none_or_great (true ∷ q) =
    let parts : multiple (true ∷ q) ≡ bit_xor (1 * 2 ^ (32 + length q) + 0x04C11DB7 * 2 ^ length q) (0 * 2 ^ (32 + length q) + multiple q) =
    ap₂ bit_xor (polynomial_parts (length q)) (omega arith) in
    let high : multiple (true ∷ q) ≡ 1 * 2 ^ (32 + length q) + bit_xor (0x04C11DB7 * 2 ^ length q) (multiple q) =
    parts ∙ xor_block (32 + length q) 1 0 (0x04C11DB7 * 2 ^ length q) (multiple q) (low_part (length q)) (multiple-below q) in
    inr (omega (arith, high, pow-add 2 32 (length q), pow_pos (length q)))

-- ---- remainders

-- bits leave one remainder
pub one_remainder : (a b : ℕ) (bits : List ℕ) → IsRemainder a bits → IsRemainder b bits → a ≡ b
one_remainder a b bits left right =
    let sums : bit_xor (multiple left.quotient) a ≡ bit_xor (multiple right.quotient) b = sym left.dividend ∙ right.dividend in
    let total = sum-multiple left.quotient right.quotient in
    let apart : bit_xor a b ≡ multiple total.0 =
    sym (xor_shared (multiple left.quotient) a b)
    ∙ ap (λ (x : ℕ). bit_xor x (bit_xor (multiple left.quotient) b)) sums
    ∙ ap (λ (x : ℕ). bit_xor x (bit_xor (multiple left.quotient) b)) (xor_comm (multiple right.quotient) b)
    ∙ ap (bit_xor (bit_xor b (multiple right.quotient))) (xor_comm (multiple left.quotient) b)
    ∙ xor_shared b (multiple right.quotient) (multiple left.quotient)
    ∙ xor_comm (multiple right.quotient) (multiple left.quotient)
    ∙ sym total.1 in
    let small : bit_xor a b < 2 ^ 32 = xor_lt 32 a b left.below right.below in
    elim (none_or_great total.0) [
      | inl none ↦ same_from_xor a b (apart ∙ none)
      | inr great ↦ absurd (omega (arith, great, apart, small))
    ]

-- ---- multiples that x divides

-- a quotient has a last power or none at all
last_power : (q : List Bool) → (q ≡ []) ⊎ ((r : List Bool) × (x : Bool) × (q ≡ r ++ x ∷ []))
last_power [] = inl refl
last_power (y ∷ q) = elim (last_power q) [
  | inl none ↦ inr ([], y, ap (λ (t : List Bool). y ∷ t) none)
  | inr found ↦ inr (y ∷ found.0, found.1, ap (λ (t : List Bool). y ∷ t) found.2)
]

-- a multiple is odd where its quotient has the power 0
odd_multiple : (r : List Bool) → multiple (r ++ true ∷ []) % 2 ≡ 1
odd_multiple r =
    let even : multiple r * 2 % 2 ≡ 0 = omega arith in
    ap (λ (x : ℕ). x % 2) (multiple-append r (true ∷ [])) ∙ xor_mod (multiple r * 2) crc_polynomial 1 ∙ ap (λ (x : ℕ). bit_xor x 1) even

halved : (m : ℕ) (q : List Bool) → m * 2 ≡ multiple q → (r : List Bool) × (m ≡ multiple r)
halved m q twice = elim (last_power q) [
  | inl none ↦ ([], omega (arith, twice, ap multiple none))
  | inr found ↦ by_last found.0 found.1 found.2
]
  where
    by_last : (r : List Bool) (x : Bool) → q ≡ r ++ x ∷ [] → (r : List Bool) × (m ≡ multiple r)
    by_last r false is = (r, omega (arith, twice, ap multiple is, multiple-append r (false ∷ []), xor_zero_r (multiple r * 2)))
    by_last r true is = absurd (omega (arith, odd_multiple r, ap (λ (t : List Bool). multiple t % 2) is, twice))

-- x^k times a polynomial is a multiple only where the polynomial is one
pub divided : (k m : ℕ) (q : List Bool) → m * 2 ^ k ≡ multiple q → (r : List Bool) × (m ≡ multiple r)
divided zero m q is = (q, omega (arith, is))
divided (suc k) m q is =
    let twice : m * 2 ^ k * 2 ≡ m * 2 ^ suc k = mul_assoc m (2 ^ k) 2 ∙ ap (λ (p : ℕ). m * p) (sym (pow-suc 2 k)) in
    let half = halved (m * 2 ^ k) q (twice ∙ is) in
    divided k m half.0 half.1
