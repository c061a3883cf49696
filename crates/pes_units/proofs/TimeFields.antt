-- The field of a time as one number of 40 bits.
use Rattle.std.proofs.Common.{◌≡◌, ℕ, ◌+◌, ◌*◌, ◌/◌, ◌%◌, ◌^◌, ◌<◌, Bool, true, false, ◌&&◌, List, ◌∷◌, [], get_or, refl, ap, ◌∙◌, arith, eqb}
use Rattle.std.specs.Prelude.{bit_and, bit_or}
use Rattle.std.specs.Int.{w64, from_be_bytes}
use Rattle.std.proofs.lemmas.Nat.{and_mask, and_block, or_shifted}
use Rattle.std.proofs.lemmas.Bool.Decides.{nat_tests}
use Rattle.bit_lists.specs.Fields.{bits}
use Rattle.bit_lists.proofs.WordLemmas.{bits-part, bits-five}
use Rattle.pes_units.specs.Times.{time_at, has_markers}

abbrev pub word_at : List ℕ → ℕ → ℕ
word_at bytes place = bits bytes (8 * place) 40

-- the time in it
abbrev pub time_in : ℕ → ℕ
time_in word = 2 ^ 30 * (word / 2 ^ 33 % 2 ^ 3) + 2 ^ 15 * (word / 2 ^ 17 % 2 ^ 15) + word / 2 ^ 1 % 2 ^ 15

pub time_at-word : (bytes : List ℕ) (place : ℕ) → time_at bytes place ≡ time_in (word_at bytes place)
time_at-word bytes place = rw (bits-part bytes (8 * place) 4 3 33, bits-part bytes (8 * place) 8 15 17, bits-part bytes (8 * place) 24 15 1) refl

-- its markers
abbrev pub markers_in : ℕ → Bool
markers_in word = eqb (word / 2 ^ 32 % 2 ^ 1) 1 && eqb (word / 2 ^ 16 % 2 ^ 1) 1 && eqb (word / 2 ^ 0 % 2 ^ 1) 1

pub has_markers-word : (bytes : List ℕ) (place : ℕ) → has_markers bytes place ≡ markers_in (word_at bytes place)
has_markers-word bytes place = rw (bits-part bytes (8 * place) 7 1 32, bits-part bytes (8 * place) 23 1 16, bits-part bytes (8 * place) 39 1 0) refl

-- as the code computes it
pub word-read : (bytes : List ℕ) (place : ℕ) → ((i : ℕ) → get_or bytes i 0 < 256) →
    from_be_bytes w64 (0 ∷ 0 ∷ 0 ∷ get_or bytes place 0 ∷ get_or bytes (place + 1) 0 ∷ get_or bytes (place + 2) 0 ∷ get_or bytes (place + 3) 0 ∷ get_or bytes (place + 4) 0 ∷ []) ≡ word_at bytes place
word-read bytes place fits = omega (arith, bits-five bytes place, fits place, fits (place + 1), fits (place + 2), fits (place + 3), fits (place + 4))

-- three numbers side by side
or_of_three : (high middle low : ℕ) → high < 2 ^ 3 → middle < 2 ^ 15 → low < 2 ^ 15 → bit_or (bit_or (high * 2 ^ 30 % 2 ^ 64) (middle * 2 ^ 15 % 2 ^ 64)) low ≡ 2 ^ 30 * high + 2 ^ 15 * middle + low
or_of_three high middle low high_fits middle_fits low_fits =
    let high_whole : high * 2 ^ 30 % 2 ^ 64 ≡ high * 2 ^ 30 = omega arith in
    let middle_whole : middle * 2 ^ 15 % 2 ^ 64 ≡ middle * 2 ^ 15 = omega arith in
    let both : bit_or (high * 2 ^ 30) (middle * 2 ^ 15) ≡ (high * 2 ^ 15 + middle) * 2 ^ 15 = or_shifted high 30 (middle * 2 ^ 15) (omega arith) ∙ omega arith in
    rw (high_whole, middle_whole, both, or_shifted (high * 2 ^ 15 + middle) 15 low low_fits) (omega arith)

pub time_in-read : (word : ℕ) → bit_or (bit_or (bit_and (word / 2 ^ 33) 7 * 2 ^ 30 % 2 ^ 64) (bit_and (word / 2 ^ 17) 32767 * 2 ^ 15 % 2 ^ 64)) (bit_and (word / 2 ^ 1) 32767) ≡ time_in word
time_in-read word =
    rw (and_mask (word / 2 ^ 33) 3, and_mask (word / 2 ^ 17) 15, and_mask (word / 2 ^ 1) 15)
    (or_of_three (word / 2 ^ 33 % 2 ^ 3) (word / 2 ^ 17 % 2 ^ 15) (word / 2 ^ 1 % 2 ^ 15) (omega arith) (omega arith) (omega arith))

-- the markers in it, each in its place
pub markers-mask : (word : ℕ) → bit_and word 4295032833 ≡ word / 2 ^ 32 % 2 ^ 1 * 2 ^ 32 + word / 2 ^ 16 % 2 ^ 1 * 2 ^ 16 + word / 2 ^ 0 % 2 ^ 1
markers-mask word =
    let high = word / 2 ^ 16 in
    let split : word ≡ high * 2 ^ 16 + word % 2 ^ 16 = omega arith in
    let high_split : high ≡ high / 2 ^ 16 * 2 ^ 16 + high % 2 ^ 16 = omega arith in
    let low_part : bit_and word 4295032833 ≡ bit_and high 65537 * 2 ^ 16 + bit_and (word % 2 ^ 16) 1 =
    ap (λ x. bit_and x 4295032833) split ∙ and_block 16 high 65537 (word % 2 ^ 16) 1 (omega arith) (omega arith) in
    let high_part : bit_and high 65537 ≡ bit_and (high / 2 ^ 16) 1 * 2 ^ 16 + bit_and (high % 2 ^ 16) 1 =
    ap (λ x. bit_and x 65537) high_split ∙ and_block 16 (high / 2 ^ 16) 1 (high % 2 ^ 16) 1 (omega arith) (omega arith) in
    omega (arith, low_part, high_part, and_mask (high / 2 ^ 16) 1, and_mask (high % 2 ^ 16) 1, and_mask (word % 2 ^ 16) 1)

pub markers_in-mask : (word : ℕ) → bit_and word 4295032833 ≡ 4295032833 → markers_in word ≡ true
markers_in-mask word all = grind (arith, nat_tests, markers-mask word)

pub markers_in-mask_not : (word : ℕ) → (bit_and word 4295032833 ≡ 4295032833 → ⊥) → markers_in word ≡ false
markers_in-mask_not word some = grind (arith, nat_tests, markers-mask word)
