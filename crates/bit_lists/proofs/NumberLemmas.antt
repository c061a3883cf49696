-- The number that a list of bits spells, by its parts.
use Rattle.std.proofs.Common.{◌≡◌, ℕ, zero, suc, ◌+◌, ◌*◌, ◌^◌, ◌%◌, ◌<◌, ◌≤◌, List, [], ◌∷◌, ◌++◌, length, take, drop, replicate, refl, sym, ap, ap₂, ◌∙◌, arith, length-append, pow-suc, lit<}
use Rattle.std.specs.List.{AllByRecursion}
use Rattle.std.proofs.Math.Nat.{mul_assoc}
use Rattle.std.proofs.lemmas.Nat.{pow-add}
use Rattle.bit_lists.specs.Bits.{bits_of, number_of}
use Rattle.bit_lists.specs.Fields.{bit_list, bits_of_byte}
use Rattle.bit_lists.proofs.JoinedLemmas.{bits_of-put}

-- ---- bits, as numbers below 2

abbrev pub AreBits : List ℕ → Type 0
AreBits bits = AllByRecursion (λ bit. bit < 2) bits

pub AreBits-take : (n : ℕ) (bits : List ℕ) → AreBits bits → AreBits (take n bits)
AreBits-take zero bits are = tt
AreBits-take (suc n) [] are = tt
AreBits-take (suc n) (bit ∷ bits) are = (are.0, AreBits-take n bits are.1)

pub AreBits-drop : (n : ℕ) (bits : List ℕ) → AreBits bits → AreBits (drop n bits)
AreBits-drop zero bits are = are
AreBits-drop (suc n) [] are = tt
AreBits-drop (suc n) (bit ∷ bits) are = AreBits-drop n bits are.1

pub AreBits-append : (xs ys : List ℕ) → AreBits xs → AreBits ys → AreBits (xs ++ ys)
AreBits-append [] ys first second = second
AreBits-append (x ∷ xs) ys first second = (first.0, AreBits-append xs ys first.1 second)

pub AreBits-zeros : (n : ℕ) → AreBits (replicate n 0)
AreBits-zeros zero = tt
AreBits-zeros (suc n) = (lit< tt, AreBits-zeros n)

pub AreBits-bit_list : (bytes : List ℕ) → AreBits (bit_list bytes)
AreBits-bit_list [] = tt
AreBits-bit_list (byte ∷ bytes) =
    let low : (n : ℕ) → n % 2 < 2 = λ n. omega arith in
    (low _, (low _, (low _, (low _, (low _, (low _, (low _, (low _, AreBits-bit_list bytes))))))))

-- ---- numbers

pub number_of-append : (xs ys : List ℕ) → number_of (xs ++ ys) ≡ number_of xs * 2 ^ length ys + number_of ys
unfolding number_of
number_of-append [] ys = omega arith
number_of-append (x ∷ xs) ys =
    let worth : x * 2 ^ length (xs ++ ys) ≡ x * 2 ^ length xs * 2 ^ length ys =
    ap (λ (n : ℕ). x * 2 ^ n) (length-append xs ys) ∙ ap (λ (p : ℕ). x * p) (pow-add 2 (length xs) (length ys)) ∙ sym (mul_assoc x (2 ^ length xs) (2 ^ length ys)) in
    omega (arith, worth, number_of-append xs ys)

pub number_of-zeros : (n : ℕ) → number_of (replicate n 0) ≡ 0
unfolding number_of
number_of-zeros zero = refl
number_of-zeros (suc n) = omega (arith, number_of-zeros n)

at_most : (bit worth : ℕ) → bit < 2 → bit * worth ≤ worth
at_most zero worth low = omega arith
at_most (suc zero) worth low = omega arith
at_most (suc (suc n)) worth low = absurd (omega (arith, low))

pub number_of-below : (bits : List ℕ) → AreBits bits → number_of bits < 2 ^ length bits
unfolding number_of
number_of-below [] are = omega arith
number_of-below (bit ∷ bits) are =
    omega (arith, at_most bit (2 ^ length bits) are.0, number_of-below bits are.1, pow-suc 2 (length bits))

pub number_of-byte : (byte : ℕ) → number_of (bits_of_byte byte) ≡ byte % 256
unfolding number_of
number_of-byte byte = omega arith

-- ---- bits and the number that they spell

pub AreBits-bits_of : (n value : ℕ) → AreBits (bits_of n value)
unfolding bits_of
AreBits-bits_of zero value = tt
AreBits-bits_of (suc n) value = (omega arith, AreBits-bits_of n value)

pub bits_of-bit : (bit : ℕ) → bit < 2 → bits_of 1 bit ≡ bit ∷ []
unfolding bits_of
bits_of-bit zero lt = refl
bits_of-bit (suc zero) lt = refl
bits_of-bit (suc (suc n)) lt = absurd (omega (arith, lt))

-- bits are those of the number that they spell
pub bits_of-number_of : (bits : List ℕ) → AreBits bits → bits_of (length bits) (number_of bits) ≡ bits
unfolding number_of bits_of
bits_of-number_of [] are = refl
bits_of-number_of (bit ∷ bits) are =
    let count : suc (length bits) ≡ 1 + length bits = omega arith in
    ap (λ (n : ℕ). bits_of n (bit * 2 ^ length bits + number_of bits)) count
    ∙ bits_of-put 1 (length bits) bit (number_of bits) (number_of-below bits are.1)
    ∙ ap₂ (λ (a b : List ℕ). a ++ b) (bits_of-bit bit are.0) (bits_of-number_of bits are.1)
